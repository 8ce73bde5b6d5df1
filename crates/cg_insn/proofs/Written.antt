-- The pieces of a syntax are written in it.
use Rattle.std.proofs.Common.{◌≡◌, ℕ, zero, suc, ◌+◌, ◌-◌, ◌<◌, Bool, true, false, cond, not, ◌==◌, nat_lt, List, [], ◌∷◌, ◌++◌, length, take, drop, get_or, Option, Some, None, refl, sym, ap, subst, ◌∙◌, arith}
use Rattle.std.proofs.Math.Seq.{drop-cons}
use Rattle.std.proofs.lemmas.List.{take-append-drop}
use Rattle.std.proofs.lemmas.List.Sums.{passes_at_first}
use Rattle.std.proofs.lemmas.List.Folds.{length-prefix_len}
use Rattle.std.proofs.lemmas.Bool.Decides.{nat_tests}
use Rattle.std.specs.List.{list_all, prefix_len, position_or_len}
use Rattle.cg_base.specs.Parts.{◌>>=◌}
use Rattle.cg_insn.specs.declared.syntax.NamedPiece.{NamedPiece}
use Rattle.cg_insn.specs.declared.syntax.NamedPiece.TheVariants.{Literal, Slot}
use Rattle.cg_insn.specs.Syntax.{Spelled, Writes, nothing, as_it_is, bare, in_braces, is_name_byte, is_closing, is_dollar, is_not_closing, is_not_dollar, goes_on, is_literal, slot_named, slot_in_braces, bare_slot, slot, up_to_slot, literal, first_piece, in_front, pieces_behind, pieces_of}

-- the piece stands in front of those that are written behind its bytes
abbrev Leads : Spelled → ℕ → List ℕ → Type 0
Leads x b bs = (ps : List NamedPiece) → Writes ps (drop x.1 bs) → Writes (x.0 ∷ ps) (b ∷ bs)

named : (empty : Bool) (name : List ℕ) (more : ℕ) (x : Spelled) → cond empty None (Some (Slot name, more)) ≡ Some x → (empty ≡ false) × ((Slot name, more) ≡ x)
named true name more x h = absurd cc
named false name more x h = (refl, cc)

more_pass : (p : ℕ → Bool) (b : ℕ) (bs : List ℕ) (e : Bool) → p b ≡ e → list_all p (take (prefix_len p bs) bs) ≡ true → list_all p (take (cond e (1 + prefix_len p bs) 0) (b ∷ bs)) ≡ true
more_pass p b bs false h all = refl
more_pass p b bs true h all =
    let one : 1 + prefix_len p bs ≡ suc (prefix_len p bs) = omega arith in
    ap (λ (m : ℕ). list_all p (take m (b ∷ bs))) one ∙ rw h all

all_pass : (p : ℕ → Bool) (bs : List ℕ) → list_all p (take (prefix_len p bs) bs) ≡ true
all_pass p [] = refl
all_pass p (b ∷ bs) = more_pass p b bs (p b) refl (all_pass p bs)

more_stop : (p : ℕ → Bool) (b : ℕ) (bs : List ℕ) (e : Bool) → p b ≡ e → goes_on p (drop (prefix_len p bs) bs) ≡ false → goes_on p (drop (cond e (1 + prefix_len p bs) 0) (b ∷ bs)) ≡ false
more_stop p b bs false h stop = h
more_stop p b bs true h stop =
    let one : 1 + prefix_len p bs ≡ suc (prefix_len p bs) = omega arith in
    ap (λ (m : ℕ). goes_on p (drop m (b ∷ bs))) one ∙ stop

all_stop : (p : ℕ → Bool) (bs : List ℕ) → goes_on p (drop (prefix_len p bs) bs) ≡ false
all_stop p [] = refl
all_stop p (b ∷ bs) = more_stop p b bs (p b) refl (all_stop p bs)

bare_leads : (bs : List ℕ) (x : Spelled) → bare_slot bs ≡ Some x → Leads x 36 bs
bare_leads bs x h =
    let k = prefix_len is_name_byte bs in
    let n = named (length (take k bs) == 0) (take k bs) k x h in
    subst (λ (y : Spelled). Leads y 36 bs) n.1
    (λ ps w. subst (λ (l : List ℕ). Writes (Slot (take k bs) ∷ ps) (36 ∷ l)) (take-append-drop k bs) (bare (take k bs) n.0 (all_pass is_name_byte bs) (all_stop is_name_byte bs) w))

-- the first `}` stands behind the name
seam : (cs : List ℕ) → nat_lt (position_or_len is_closing cs) (length cs) ≡ true → take (position_or_len is_closing cs) cs ++ 125 ∷ drop (suc (position_or_len is_closing cs)) cs ≡ cs
seam cs h =
    let k = position_or_len is_closing cs in
    let within : k < length cs = grind (arith, nat_tests) in
    let brace : 125 ≡ get_or cs k 0 = grind (arith, nat_tests, passes_at_first is_closing cs 0 within) in
    ap (λ (b : ℕ). take k cs ++ b ∷ drop (suc k) cs) brace ∙ ap (λ (l : List ℕ). take k cs ++ l) (sym (drop-cons cs k 0 within)) ∙ take-append-drop k cs

braced : (within : Bool) (cs : List ℕ) (x : Spelled) → nat_lt (position_or_len is_closing cs) (length cs) ≡ within
    → (cond within (Some (position_or_len is_closing cs)) None >>= (λ n. slot_named (take n cs) (n + 2))) ≡ Some x → Leads x 36 (123 ∷ cs)
braced false cs x s h = absurd cc
braced true cs x s h =
    let k = position_or_len is_closing cs in
    let more : suc (suc k) ≡ k + 2 = omega arith in
    let n = named (length (take k cs) == 0) (take k cs) (k + 2) x h in
    subst (λ (y : Spelled). Leads y 36 (123 ∷ cs)) (ap (λ (m : ℕ). (Slot (take k cs), m)) more ∙ n.1)
    (λ ps w. subst (λ (l : List ℕ). Writes (Slot (take k cs) ∷ ps) (36 ∷ 123 ∷ l)) (seam cs s) (in_braces (take k cs) n.0 (all_pass is_not_closing cs) w))

slot_leads : (bs : List ℕ) (x : Spelled) → slot bs ≡ Some x → Leads x 36 bs
slot_leads [] x h = absurd cc
slot_leads (b ∷ bs) x h = at (b == 123) refl h where
  at : (e : Bool) → (b == 123) ≡ e → cond e (slot_in_braces bs) (bare_slot (b ∷ bs)) ≡ Some x → Leads x 36 (b ∷ bs)
  at true p q = subst (λ (c : ℕ). Leads x 36 (c ∷ bs)) (grind (arith, nat_tests)) (braced (nat_lt (position_or_len is_closing bs) (length bs)) bs x refl q)
  at false p q = bare_leads (b ∷ bs) x q

spelled : (fits : Bool) (text : List ℕ) (x : Spelled) → cond fits (Some (Literal text, length text - 1)) None ≡ Some x → (fits ≡ true) × ((Literal text, length text - 1) ≡ x)
spelled true text x h = (refl, cc)
spelled false text x h = absurd cc

-- a literal that begins with this byte
literal_leads : (b : ℕ) (bs : List ℕ) (x : Spelled) → is_dollar b ≡ false → literal (b ∷ bs) ≡ Some x → Leads x b bs
literal_leads b bs x p h =
    let k = up_to_slot bs in
    let text = take (up_to_slot (b ∷ bs)) (b ∷ bs) in
    let one : 1 + k ≡ suc k = omega arith in
    let whole : text ≡ b ∷ take k bs = rw p (ap (λ (m : ℕ). take m (b ∷ bs)) one) in
    let less : length (b ∷ take k bs) - 1 ≡ length (take k bs) = omega arith in
    let count : length text - 1 ≡ k = ap (λ (l : List ℕ). length l - 1) whole ∙ less ∙ length-prefix_len (λ b. not (is_dollar b)) bs in
    let n = spelled (is_literal text) text x h in
    let fits : is_literal (b ∷ take k bs) ≡ true = ap is_literal (sym whole) ∙ n.0 in
    let all : list_all is_not_dollar (b ∷ take k bs) ≡ true = rw p (all_pass is_not_dollar bs) in
    let some : (length (b ∷ take k bs) == 0) ≡ false = grind (arith, nat_tests) in
    subst (λ (y : Spelled). Leads y b bs) (ap (λ (l : List ℕ). (Literal l, k)) (sym whole) ∙ ap (λ (n : ℕ). (Literal text, n)) (sym count) ∙ n.1)
    (λ ps w. subst (λ (l : List ℕ). Writes (Literal (b ∷ take k bs) ∷ ps) (b ∷ l)) (take-append-drop k bs) (as_it_is (b ∷ take k bs) some fits all (all_stop is_not_dollar bs) w))

leads : (b : ℕ) (bs : List ℕ) (x : Spelled) → first_piece (b ∷ bs) ≡ Some x → Leads x b bs
leads b bs x h = at (is_dollar b) refl h where
  at : (e : Bool) → is_dollar b ≡ e → cond e (slot bs) (literal (b ∷ bs)) ≡ Some x → Leads x b bs
  at true p q = subst (λ (c : ℕ). Leads x c bs) (grind (arith, nat_tests)) (slot_leads bs x q)
  at false p q = literal_leads b bs x p q

pub written_behind : (n : ℕ) (bs : List ℕ) (ps : List NamedPiece) → pieces_behind n bs ≡ Some ps → Writes ps (drop n bs)
unfolding pieces_behind
written_behind zero [] ps h = let e : [] ≡ ps = cc in subst (λ (qs : List NamedPiece). Writes qs []) e nothing
written_behind (suc n) [] ps h = let e : [] ≡ ps = cc in subst (λ (qs : List NamedPiece). Writes qs []) e nothing
written_behind (suc n) (b ∷ bs) ps h = written_behind n bs ps h
written_behind zero (b ∷ bs) ps h = at (λ m qs q. written_behind m bs qs q) (first_piece (b ∷ bs)) refl h where
  behind : (x : Spelled) → ((qs : List NamedPiece) → pieces_behind x.1 bs ≡ Some qs → Writes qs (drop x.1 bs)) → first_piece (b ∷ bs) ≡ Some x → (r : Option (List NamedPiece)) → pieces_behind x.1 bs ≡ r → in_front x.0 r ≡ Some ps → Writes ps (b ∷ bs)
  behind x later p None q e = absurd cc
  behind x later p (Some qs) q e = let f : x.0 ∷ qs ≡ ps = cc in subst (λ (all : List NamedPiece). Writes all (b ∷ bs)) f (leads b bs x p qs (later qs q))

  at : ((m : ℕ) (qs : List NamedPiece) → pieces_behind m bs ≡ Some qs → Writes qs (drop m bs)) → (s : Option Spelled) → first_piece (b ∷ bs) ≡ s → (s >>= (λ x. in_front x.0 (pieces_behind x.1 bs))) ≡ Some ps → Writes ps (b ∷ bs)
  at later None p e = absurd cc
  at later (Some x) p e = behind x (λ qs q. later x.1 qs q) p (pieces_behind x.1 bs) refl e

pub written : (text : List ℕ) (ps : List NamedPiece) → pieces_of text ≡ Some ps → Writes ps text
written text ps h = written_behind 0 text ps h
