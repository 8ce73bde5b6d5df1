-- Decoders that agree on bytes give one listing.
use Rattle.std.proofs.Common.{◌≡◌, ℕ, zero, suc, ◌+◌, ◌-◌, ◌<◌, Bool, true, false, if◌then◌else◌, List, [], ◌∷◌, ◌++◌, take, drop, Option, Some, None, sym, ap, ◌∙◌, refl, subst}
use Rattle.std.proofs.lemmas.List.{get_or-drop}
use Rattle.cg_model.specs.Clashing.{AreBytes}
use Rattle.cg_model.specs.Encoding.{own_pc}
use Rattle.cg_model_source.specs.Listing.{Decoder, Shown, shown, goes_on_by, bars_before, bundle_from, bundle_at, insn_at, showable, ListedLine, line_for, line_at, lines_from, listing}
use Rattle.cg_model.specs.Matching.{length_of}
use Rattle.cg_model.specs.Slots.{values}
use Rattle.cg_model.specs.declared.insn.Insn.{Insn}
use Rattle.cg_model.specs.declared.machine.Machine.{Machine}

abbrev pub Agree : Decoder → Decoder → Type 0
Agree f g = (bytes : List ℕ) → AreBytes bytes → f bytes ≡ g bytes

behind : (k : ℕ) (bytes : List ℕ) → AreBytes bytes → AreBytes (drop k bytes)
behind k bytes are = record { below = λ j. subst (λ x. x < 256) (sym (get_or-drop k bytes j 0)) (are.below (k + j)) }

rest : (b : ℕ) (bs : List ℕ) → AreBytes (b ∷ bs) → AreBytes bs
rest b bs are = record { below = λ k. are.below (suc k) }

abbrev shown_with : Machine → List ℕ → ℕ → List ℕ → Option Shown → Option Shown
shown_with m bytes size text r = if goes_on_by m (take size bytes) m.bundle then bars_before text size r else Some (record { text = text; size = size })

abbrev with_insn : Machine → Decoder → ℕ → ℕ → List ℕ → Option Insn → Option Shown
with_insn m f n a bytes q = elim q [
  | None ↦ None
  | Some i ↦ elim (shown m i (values m i bytes (own_pc m a))) [ None ↦ None | Some text ↦ shown_with m bytes (length_of m i) text (bundle_from m f n (a + length_of m i) (drop (length_of m i) bytes)) ]
]

text_same : (m : Machine) (bytes : List ℕ) (size : ℕ) (t : Option (List ℕ)) (r s : Option Shown) → r ≡ s
    → elim t as (λ _. Option Shown) [ None ↦ None | Some text ↦ shown_with m bytes size text r ] ≡ elim t as (λ _. Option Shown) [ None ↦ None | Some text ↦ shown_with m bytes size text s ]
text_same m bytes size None r s e = refl
text_same m bytes size (Some text) r s e = ap (shown_with m bytes size text) e

insn_same : (m : Machine) (f g : Decoder) (n a : ℕ) (bytes : List ℕ) (q : Option Insn) → ((c size : ℕ) → bundle_from m f n c (drop size bytes) ≡ bundle_from m g n c (drop size bytes)) → with_insn m f n a bytes q ≡ with_insn m g n a bytes q
insn_same m f g n a bytes None each = refl
insn_same m f g n a bytes (Some i) each =
    text_same m bytes (length_of m i) (shown m i (values m i bytes (own_pc m a))) (bundle_from m f n (a + length_of m i) (drop (length_of m i) bytes)) (bundle_from m g n (a + length_of m i) (drop (length_of m i) bytes)) (each (a + length_of m i) (length_of m i))

bundle_same : (m : Machine) (f g : Decoder) (n a : ℕ) (bytes : List ℕ) → Agree f g → AreBytes bytes → bundle_from m f n a bytes ≡ bundle_from m g n a bytes
bundle_same m f g zero a bytes agree are = refl
bundle_same m f g (suc n) a bytes agree are =
    ap (λ o. with_insn m f n a bytes (insn_at m o)) (agree bytes are) ∙ insn_same m f g n a bytes (insn_at m (g bytes)) (λ c size. bundle_same m f g n c (drop size bytes) agree (behind size bytes are))

line_same : (m : Machine) (f g : Decoder) (a : ℕ) (bytes : List ℕ) → Agree f g → AreBytes bytes → line_at m f a bytes ≡ line_at m g a bytes
unfolding line_at
line_same m f g a bytes agree are = ap (λ o. line_for m (own_pc m a) bytes (showable o)) (bundle_same m f g m.width a bytes agree are)

abbrev line_before : ListedLine → (ℕ → List ℕ) → List ℕ
line_before line behind = line.text ++ behind (line.size - 1)

lines_same : (m : Machine) (f g : Decoder) (skipped a : ℕ) (bytes : List ℕ) → Agree f g → AreBytes bytes → lines_from m f skipped a bytes ≡ lines_from m g skipped a bytes
lines_same m f g zero a [] agree are = refl
lines_same m f g (suc k) a [] agree are = refl
lines_same m f g (suc k) a (b ∷ bs) agree are = lines_same m f g k (suc a) bs agree (rest b bs are)
lines_same m f g zero a (b ∷ bs) agree are =
    let line : ListedLine = line_at m g a (b ∷ bs) in
    ap (λ l. line_before l (λ k. lines_from m f k (suc a) bs)) (line_same m f g a (b ∷ bs) agree are) ∙ ap (λ t. line.text ++ t) (lines_same m f g (line.size - 1) (suc a) bs agree (rest b bs are))

pub listing_same : (m : Machine) (f g : Decoder) (base : ℕ) (bytes : List ℕ) → Agree f g → AreBytes bytes → listing m f base bytes ≡ listing m g base bytes
unfolding listing
listing_same m f g base bytes agree are = lines_same m f g 0 base bytes agree are
