-- How the lines of a listing follow each other.
use Rattle.std.proofs.Common.{◌≡◌, ℕ, zero, suc, ◌+◌, ◌-◌, ◌%◌, ◌^◌, ◌<◌, ◌≤◌, List, [], ◌∷◌, ◌++◌, length, drop, get_or, append_assoc, append-nil, Ok, Fits, w8, sym, ap, ◌∙◌, refl, subst, arith}
use Rattle.std.proofs.Math.Seq.{drop-cons}
use Rattle.std.proofs.lemmas.List.{drop_all}
use Rattle.cg_list_laws.proofs.Assembled.{listing_gives_back}
use Rattle.cg_model.specs.Clashing.{decoded_to}
use Rattle.cg_model.specs.Formed.{IsFormed}
use Rattle.cg_model_source.specs.Imaging.{image}
use Rattle.cg_model_source.specs.Listing.{Decoder, ListedLine, line_at, lines_from, listing}
use Rattle.cg_model.specs.Sound.{IsSound}
use Rattle.cg_model_source.specs.Sourcing.{only_set}
use Rattle.cg_model.specs.declared.machine.Machine.{Machine}
use Rattle.cg_syntax.specs.Laying.{HasBundleBit}
use Rattle.cg_tree.proofs.Decoding.{tight_decodes}
use Rattle.cg_tree.specs.Finding.{found, IsTight}
use Rattle.cg_tree.specs.declared.tree.Tree.{Tree}
use Rattle.cg_list.proofs.Agreed.{listing_same}

-- the text so far, with the lines of what is left, is the listing
pub record Listing (m : Machine) (f : Decoder) (base : ℕ) (image : List ℕ) (k skipped : ℕ) (text : List ℕ) : Type 0 where
  pub same : text ++ lines_from m f skipped (base + k) (drop k image) ≡ listing m f base image

pub list_none : (m : Machine) (f : Decoder) (base : ℕ) (image : List ℕ) → Listing m f base image 0 0 []
unfolding listing
list_none m f base image = let at : base + 0 ≡ base = omega arith in record { same = ap (λ a. lines_from m f 0 a image) at }

parts : (image : List ℕ) (k : ℕ) → k < length image → drop k image ≡ get_or image k 0 ∷ drop (k + 1) image
parts image k within =
    let next : suc k ≡ k + 1 = omega arith in
    drop-cons image k 0 within ∙ ap (λ j. get_or image k 0 ∷ drop j image) next

skip : (m : Machine) (f : Decoder) (base : ℕ) (image : List ℕ) (k n : ℕ) (text : List ℕ) → k < length image → Listing m f base image k (suc n) text → Listing m f base image (k + 1) n text
skip m f base image k n text within x =
    let next : base + (k + 1) ≡ suc (base + k) = omega arith in
    record {
      same = ap (λ a. text ++ lines_from m f n a (drop (k + 1) image)) next ∙ sym (ap (λ bs. text ++ lines_from m f (suc n) (base + k) bs) (parts image k within)) ∙ x.same;
    }

pub list_skip : (m : Machine) (f : Decoder) (base : ℕ) (image : List ℕ) (k skipped : ℕ) (text : List ℕ) → k < length image → 0 < skipped → Listing m f base image k skipped text → Listing m f base image (k + 1) (skipped - 1) text
list_skip m f base image k zero text within some x = absurd (omega (arith, some))
list_skip m f base image k (suc n) text within some x = let less : n ≡ suc n - 1 = omega arith in subst (λ j. Listing m f base image (k + 1) j text) less (skip m f base image k n text within x)

pub list_line : (m : Machine) (f : Decoder) (base : ℕ) (image : List ℕ) (k skipped address : ℕ) (text : List ℕ) (line : ListedLine) → k < length image → skipped ≡ 0 → Listing m f base image k skipped text
    → address ≡ (base + k) % 2 ^ 64 → ((a : ℕ) → a % 2 ^ 64 ≡ address → line ≡ line_at m f a (drop k image)) → Listing m f base image (k + 1) (line.size - 1) (text ++ line.text)
list_line m f base image k skipped address text line within none x at is =
    let next : base + (k + 1) ≡ suc (base + k) = omega arith in
    let rest : List ℕ = drop (k + 1) image in
    let here : line ≡ line_at m f (base + k) (get_or image k 0 ∷ rest) = is (base + k) (sym at) ∙ ap (line_at m f (base + k)) (parts image k within) in
    record {
      same =
          append_assoc text line.text (lines_from m f (line.size - 1) (base + (k + 1)) rest)
          ∙ ap (λ a. text ++ (line.text ++ lines_from m f (line.size - 1) a rest)) next
          ∙ ap (λ l. text ++ (l.text ++ lines_from m f (l.size - 1) (suc (base + k)) rest)) here
          ∙ sym (ap (λ bs. text ++ lines_from m f 0 (base + k) bs) (parts image k within))
          ∙ sym (ap (λ n. text ++ lines_from m f n (base + k) (drop k image)) none)
          ∙ x.same;
    }

pub list_line_past : (m : Machine) (f : Decoder) (base : ℕ) (image : List ℕ) (k skipped address : ℕ) (text : List ℕ) (line : ListedLine) → k < length image → skipped ≤ 0 → Listing m f base image k skipped text
    → address ≡ (base + k) % 2 ^ 64 → ((a : ℕ) → a % 2 ^ 64 ≡ address → line ≡ line_at m f a (drop k image)) → Listing m f base image (k + 1) (line.size - 1) (text ++ line.text)
list_line_past m f base image k skipped address text line within none x at is = let zero_left : skipped ≡ 0 = omega (arith, none) in list_line m f base image k skipped address text line within zero_left x at is

no_lines : (m : Machine) (f : Decoder) (skipped a : ℕ) → lines_from m f skipped a [] ≡ []
no_lines m f zero a = refl
no_lines m f (suc n) a = refl

pub list_all : (m : Machine) (f : Decoder) (base : ℕ) (image : List ℕ) (k skipped : ℕ) (text : List ℕ) → length image ≤ k → Listing m f base image k skipped text → text ≡ listing m f base image
list_all m f base image k skipped text past x = sym (append-nil text) ∙ ap (λ t. text ++ t) (sym (no_lines m f skipped (base + k))) ∙ sym (ap (λ bs. text ++ lines_from m f skipped (base + k) bs) (drop_all k image past)) ∙ x.same

pub ruleset listing_steps = (list_none, list_skip, list_all)

-- what is listed gives the image again
pub list_back : (m : Machine) (f : Decoder) (base : ℕ) (bytes text : List ℕ) → IsSound m → HasBundleBit m → ((k : ℕ) → Fits w8 (get_or bytes k 0)) → text ≡ listing m f base bytes → IsFormed m → length bytes ≤ 2 ^ 20 → base + length bytes ≤ 2 ^ m.word_bits
    → image (only_set m) base text ≡ Ok bytes
list_back m f base bytes text sound bit fits is formed few within =
    ap (image (only_set m) base) is ∙ listing_gives_back m f base bytes formed sound (λ k x at there. (bit k x at there).1) (record { below = λ k. (fits k).fits }) few within

-- and by a tight tree it is listed as its bytes are decoded
pub list_decoded : (t : Tree) (m : Machine) (base : ℕ) (bytes text : List ℕ) → IsSound m → ((k : ℕ) → Fits w8 (get_or bytes k 0)) → text ≡ listing m (found t m) base bytes → IsTight t m → text ≡ listing m (decoded_to m) base bytes
list_decoded t m base bytes text sound fits is tight = is ∙ listing_same m (found t m) (decoded_to m) base bytes (λ rest are. tight_decodes t m rest sound are tight) (record { below = λ k. (fits k).fits })

pub ruleset lawful = (list_back, list_decoded)
