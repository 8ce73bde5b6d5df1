-- The image of a listing.
use Rattle.std.proofs.Common.{◌≡◌, ℕ, zero, suc, ◌+◌, ◌-◌, ◌^◌, ◌<◌, ◌≤◌, min, true, not, ◌==◌, if◌then◌else◌, pos, List, [], ◌∷◌, ◌++◌, length, take, drop, slice_index, Result, Ok, append_assoc, sym, ap, ◌∙◌, refl, subst, arith}
use Rattle.std.specs.Fmt.{signed_decimal}
use Rattle.std.specs.List.{list_all}
use Rattle.std.proofs.lemmas.Bool.{le-ltb}
use Rattle.std.proofs.lemmas.List.{length-take, take-append-drop, drop_all}
use Rattle.cg_base.specs.Refusing.{first}
use Rattle.cg_model_source.specs.Choosing.{alone}
use Rattle.cg_model.specs.Clashing.{AreBytes}
use Rattle.cg_model.specs.Formed.{IsFormed}
use Rattle.cg_model_source.specs.Imaging.{SourceRefusal, Laid, laid, Layout, laid_before, unless_refused, layout_from, items_bytes, in_front, unless_unfit, joined, image_of, image_from, image}
use Rattle.cg_model_source.specs.Lining.{parted_at, read_line}
use Rattle.cg_model_source.specs.Listing.{Decoder, ListedLine, line_at, lines_from, listing}
use Rattle.cg_model.specs.Sound.{IsSound}
use Rattle.cg_model_source.specs.Sourcing.{only_set, parts, reading, place_after}
use Rattle.cg_model.specs.declared.machine.Machine.{Machine}
use Rattle.cg_list_laws.proofs.Reading.{parted_behind}
use Rattle.cg_list_laws.proofs.Sizes.{HasNearBit}
use Rattle.cg_list_laws.proofs.Stated.{place}
use Rattle.cg_list_laws.proofs.Written.{Below}
use Rattle.cg_list_laws.proofs.Lines.{Clean, Reaches, Lays, lays, not_large, FirstLine, first_line}

-- lines that lay down these bytes, and define no label
record Assembles (r : Result Layout SourceRefusal) (bytes : List ℕ) : Type 0 where
  pub layout : Layout
  pub is : r ≡ Ok layout
  pub none : layout.labels ≡ []
  pub gives : joined [] layout.lines ≡ Ok bytes

line_before : (m : Machine) (base n a : ℕ) (line front rest : List ℕ) (lines : List (List ℕ)) → Lays m base a line front → Assembles (layout_from (only_set m) base (suc n) (place m (a + length front)) lines) rest
    → Assembles (layout_from (only_set m) base n (place m a) (line ∷ lines)) (front ++ rest)
line_before m base n a line front rest lines x y =
    let own : Laid = laid n (place m a) (reading (only_set m) (place m a) line) in
    record {
      layout = record { lines = own ∷ y.layout.lines; labels = y.layout.labels };
      is =
          ap (λ o. unless_refused n o (laid_before own (layout_from (only_set m) base (suc n) (place_after (place m a) (reading (only_set m) (place m a) line)) lines))) x.fault
          ∙ ap (λ q. laid_before own (layout_from (only_set m) base (suc n) q lines)) x.after
          ∙ ap (laid_before own) y.is;
      none = y.none;
      gives =
          ap (λ fs. unless_unfit n (first fs) (in_front (items_bytes m [] own.items) (joined [] y.layout.lines))) x.clear
          ∙ ap (λ bs. in_front bs (joined [] y.layout.lines)) x.gives
          ∙ ap (in_front front) y.gives;
    }

nothing_clean : (m : Machine) (a : ℕ) → Clean m a (parts []) []
nothing_clean m a = record { unknown = refl; unfit = refl; below = refl; formed = refl; narrow = ap (λ t. if t then alone 609 (signed_decimal (pos m.width)) ∷ [] else []) (le-ltb m.width 0 (omega arith)); after = refl; defined = refl; clear = refl; gives = refl; long = refl }

empty_line : (m : Machine) (base a : ℕ) → Reaches m base (a + 0) → Lays m base a [] []
unfolding reading read_line
empty_line m base a r = lays m base a [] [] (parts []) refl refl refl (nothing_clean m a) r

last_line : (m : Machine) (base n a : ℕ) → Reaches m base (a + 0) → Assembles (layout_from (only_set m) base n (place m a) ([] ∷ [])) []
last_line m base n a r = line_before m base n a [] [] [] [] (empty_line m base a r) (record { layout = record { lines = []; labels = [] }; is = refl; none = refl; gives = refl })

no_lines : (m : Machine) (f : Decoder) (skipped a : ℕ) → lines_from m f skipped a [] ≡ []
no_lines m f zero a = refl
no_lines m f (suc n) a = refl

dropped : (k b : ℕ) (bs : List ℕ) → 0 < k → drop (k - 1) bs ≡ drop k (b ∷ bs)
dropped zero b bs some = absurd (omega (arith, some))
dropped (suc k) b bs some = let less : suc k - 1 ≡ k = omega arith in ap (λ j. drop j bs) less

-- what stands behind the first line is the rest of the bytes
rest_of : (k b : ℕ) (bs : List ℕ) → 0 < k → take k (b ∷ bs) ++ drop (k - 1) bs ≡ b ∷ bs
rest_of k b bs some = ap (λ t. take k (b ∷ bs) ++ t) (dropped k b bs some) ∙ take-append-drop k (b ∷ bs)

parted_lines : (text front rest : List ℕ) → text ≡ front ++ 10 ∷ [] → list_all (λ b. not (b == 10)) front ≡ true → parted_at 10 (text ++ rest) ≡ front ∷ parted_at 10 rest
parted_lines text front rest e whole = ap (λ t. parted_at 10 (t ++ rest)) e ∙ ap (parted_at 10) (append_assoc front (10 ∷ []) rest) ∙ parted_behind 10 front rest whole

lines_lay : (m : Machine) (f : Decoder) (base n skipped a c : ℕ) (bytes : List ℕ) → IsFormed m → IsSound m → HasNearBit m → Below bytes → Reaches m base (a + length bytes) → c ≡ a + min skipped (length bytes)
    → Assembles (layout_from (only_set m) base n (place m c) (parted_at 10 (lines_from m f skipped a bytes))) (drop skipped bytes)
lines_lay m f base n skipped a c [] formed sound near below r at =
    let here : c ≡ a = omega (arith, at) in
    subst (λ t. Assembles (layout_from (only_set m) base n (place m c) (parted_at 10 t)) (drop skipped [])) (sym (no_lines m f skipped a))
    (subst (Assembles (layout_from (only_set m) base n (place m c) ([] ∷ []))) (sym (drop_all skipped [] (omega arith))) (subst (λ x. Assembles (layout_from (only_set m) base n (place m x) ([] ∷ [])) []) (sym here) (last_line m base n a r)))
lines_lay m f base n (suc k) a c (b ∷ bs) formed sound near below r at =
    let small = r.small in
    let within = r.within in
    lines_lay m f base n k (suc a) c bs formed sound near below.1 (record { small = omega (arith, small); within = omega (arith, within) }) (omega (arith, at))
lines_lay m f base n zero a c (b ∷ bs) formed sound near below r at =
    let here : c ≡ a = omega (arith, at) in
    let line : ListedLine = line_at m f a (b ∷ bs) in
    let x : FirstLine m base a (b ∷ bs) line = first_line m f base a (b ∷ bs) formed sound near (omega arith) below r in
    let front : List ℕ = take line.size (b ∷ bs) in
    let rest : List ℕ = lines_from m f (line.size - 1) (suc a) bs in
    let long : length front ≡ min line.size (suc (length bs)) = length-take line.size (b ∷ bs) in
    let small = r.small in
    let within = r.within in
    let some = x.some in
    let behind = lines_lay m f base (suc n) (line.size - 1) (suc a) (a + length front) bs formed sound near below.1 (record { small = omega (arith, small); within = omega (arith, within) }) (omega (arith, long, some)) in
    let all = line_before m base n a x.front front (drop (line.size - 1) bs) (parted_at 10 rest) x.lays behind in
    subst (λ q. Assembles (layout_from (only_set m) base n (place m q) (parted_at 10 (line.text ++ rest))) (b ∷ bs)) (sym here)
    (subst (λ ts. Assembles (layout_from (only_set m) base n (place m a) ts) (b ∷ bs)) (sym (parted_lines line.text x.front rest x.text x.lays.whole)) (subst (Assembles (layout_from (only_set m) base n (place m a) (x.front ∷ parted_at 10 rest))) (rest_of line.size b bs some) all))

image_is : (r : Result Layout SourceRefusal) (bytes : List ℕ) → Assembles r bytes → image_of r ≡ Ok bytes
image_is r bytes x = ap image_of x.is ∙ ap (λ labels. joined labels x.layout.lines) x.none ∙ x.gives

below_all : (bytes : List ℕ) → ((k : ℕ) → slice_index bytes k < 256) → Below bytes
below_all [] each = tt
below_all (b ∷ bs) each = (each 0, below_all bs (λ k. each (suc k)))

-- the image of a listing is the image that was listed
pub listing_gives_back : (m : Machine) (f : Decoder) (base : ℕ) (bytes : List ℕ) → IsFormed m → IsSound m → HasNearBit m → AreBytes bytes → length bytes ≤ 2 ^ 20 → base + length bytes ≤ 2 ^ m.word_bits
    → image (only_set m) base (listing m f base bytes) ≡ Ok bytes
unfolding image listing
listing_gives_back m f base bytes formed sound near are few within =
    let r : Reaches m base (base + length bytes) = record { small = omega (arith, few); within = within } in
    let whole : Assembles (layout_from (only_set m) base 1 (place m base) (parted_at 10 (lines_from m f 0 base bytes))) bytes = lines_lay m f base 1 0 base base bytes formed sound near (below_all bytes are.below) r (omega arith) in
    ap (λ fs. image_from (only_set m) base (first fs) (listing m f base bytes)) (not_large m base base (record { small = omega arith; within = omega (arith, within) }))
    ∙ image_is (layout_from (only_set m) base 1 (place m base) (parted_at 10 (lines_from m f 0 base bytes))) bytes whole
