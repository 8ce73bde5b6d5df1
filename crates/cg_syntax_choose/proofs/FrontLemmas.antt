-- What a text begins with that is split by a syntax.
use Rattle.std.specs.Prelude.{ℕ, ◌+◌, ◌<◌, ◌≤◌, Bool, true, false, ◌==◌, if◌then◌else◌, is_some, unwrap_or, List, [], ◌∷◌, ◌++◌, length, drop, Option, Some, None}
use Rattle.std.specs.Option.{option_map}
use Rattle.std.specs.Cmp.Lexicographic.{bytes_decides}
use Rattle.std.proofs.Common.{◌≡◌, refl, sym, ap, ◌∙◌, get_or, append_assoc, arith}
use Rattle.std.proofs.lemmas.Bool.{both_ways, eqb-true}
use Rattle.std.proofs.lemmas.Bool.Decides.{nat_tests}
use Rattle.std.proofs.lemmas.List.{append-nil, drop_all}
use Rattle.cg_syntax_fit.proofs.Values.{drop_next}
use Rattle.cg_base.specs.Texts.{same_text}
use Rattle.cg_syntax_choose.specs.Fronts.{text_front, front_of, may_split}
use Rattle.cg_model.specs.Words.{lower}
use Rattle.cg_model_source.specs.Splitting.{Spelling, split}
use Rattle.cg_model.specs.declared.machine.Machine.{Machine}
use Rattle.cg_model_source.specs.declared.written.Mark.{Mark}
use Rattle.cg_model_source.specs.declared.written.Mark.TheVariants.{Byte, Slot}
use Rattle.cg_syntax_split.specs.Passing.{filled}
use Rattle.cg_syntax_split.specs.declared.splitting.Filled.{Filled}

-- The front of a text so far, with what is left.
abbrev pub TextFront : List ℕ → ℕ → List ℕ → Type 0
TextFront text k front = front ++ text_front (drop k text) ≡ text_front text

first_char : (c : ℕ) (text : List ℕ) (blank : Bool) → (c == 32) ≡ blank → text_front (c ∷ text) ≡ (if blank then [] else lower c ∷ text_front text)
first_char c text blank e = ap (λ b. if b then [] else lower c ∷ text_front text) e

pub text_stops : (text front : List ℕ) (k : ℕ) → k < length text → (get_or text k 0 == 32) ≡ true → TextFront text k front → front ≡ text_front text
text_stops text front k within blank so =
    sym (append-nil front) ∙ ap (λ t. front ++ t) (sym (ap text_front (drop_next text k 0 within) ∙ first_char (get_or text k 0) (drop (k + 1) text) true blank)) ∙ so

pub text_goes_on : (text front : List ℕ) (k : ℕ) → k < length text → (get_or text k 0 == 32) ≡ false → TextFront text k front → TextFront text (k + 1) (front ++ lower (get_or text k 0) ∷ [])
text_goes_on text front k within other so =
    append_assoc front (lower (get_or text k 0) ∷ []) (text_front (drop (k + 1) text))
    ∙ ap (λ t. front ++ t) (sym (ap text_front (drop_next text k 0 within) ∙ first_char (get_or text k 0) (drop (k + 1) text) false other)) ∙ so

pub text_ends : (text front : List ℕ) (k : ℕ) → length text ≤ k → TextFront text k front → front ≡ text_front text
text_ends text front k past so = sym (append-nil front) ∙ ap (λ t. front ++ text_front t) (sym (drop_all k text past)) ∙ so

pub ruleset texting = (text_stops, text_goes_on, text_ends)

-- The front of a syntax so far, with what is left.
abbrev pub MarkFront : List Mark → ℕ → List ℕ → Type 0
MarkFront ms k front = option_map (λ t. front ++ t) (front_of (drop k ms)) ≡ front_of ms

first_mark : (b : ℕ) (ms : List Mark) (blank : Bool) → (b == 32) ≡ blank → front_of (Byte b ∷ ms) ≡ (if blank then Some [] else option_map (λ t. lower b ∷ t) (front_of ms))
first_mark b ms blank e = ap (λ t. if t then Some [] else option_map (λ t. lower b ∷ t) (front_of ms)) e

at_mark : (ms : List Mark) (front : List ℕ) (k : ℕ) (d x : Mark) → k < length ms → get_or ms k d ≡ x → MarkFront ms k front → option_map (λ t. front ++ t) (front_of (x ∷ drop (k + 1) ms)) ≡ front_of ms
at_mark ms front k d x within at so =
    ap (λ xs. option_map (λ t. front ++ t) (front_of xs)) (sym (drop_next ms k d within ∙ ap (λ y. y ∷ drop (k + 1) ms) at)) ∙ so

pub mark_stops : (ms : List Mark) (front : List ℕ) (k b : ℕ) (d : Mark) → k < length ms → get_or ms k d ≡ Byte b → (b == 32) ≡ true → MarkFront ms k front → Some front ≡ front_of ms
mark_stops ms front k b d within at blank so =
    ap Some (sym (append-nil front)) ∙ ap (option_map (λ t. front ++ t)) (sym (first_mark b (drop (k + 1) ms) true blank)) ∙ at_mark ms front k d (Byte b) within at so

longer : (front : List ℕ) (b : ℕ) (rest : Option (List ℕ)) → option_map (λ t. (front ++ lower b ∷ []) ++ t) rest ≡ option_map (λ t. front ++ t) (option_map (λ t. lower b ∷ t) rest)
longer front b None = refl
longer front b (Some t) = ap Some (append_assoc front (lower b ∷ []) t)

pub mark_goes_on : (ms : List Mark) (front : List ℕ) (k b : ℕ) (d : Mark) → k < length ms → get_or ms k d ≡ Byte b → (b == 32) ≡ false → MarkFront ms k front → MarkFront ms (k + 1) (front ++ lower b ∷ [])
mark_goes_on ms front k b d within at other so =
    longer front b (front_of (drop (k + 1) ms)) ∙ ap (option_map (λ t. front ++ t)) (sym (first_mark b (drop (k + 1) ms) false other)) ∙ at_mark ms front k d (Byte b) within at so

pub mark_none : (ms : List Mark) (front : List ℕ) (k s : ℕ) (d : Mark) → k < length ms → get_or ms k d ≡ Slot s → MarkFront ms k front → (let none : Option (List ℕ) = None in none) ≡ front_of ms
mark_none ms front k s d within at so = at_mark ms front k d (Slot s) within at so

pub mark_ends : (ms : List Mark) (front : List ℕ) (k : ℕ) → length ms ≤ k → MarkFront ms k front → Some front ≡ front_of ms
mark_ends ms front k past so = ap Some (sym (append-nil front)) ∙ ap (λ xs. option_map (λ t. front ++ t) (front_of xs)) (sym (drop_all k ms past)) ∙ so

nothing_yet : (r : Option (List ℕ)) → option_map (λ t. [] ++ t) r ≡ r
nothing_yet None = refl
nothing_yet (Some t) = refl

pub mark_starts : (ms : List Mark) → MarkFront ms 0 []
mark_starts ms = nothing_yet (front_of ms)

pub ruleset marking = (mark_starts, mark_stops, mark_goes_on, mark_none, mark_ends)

-- A text that is split begins as the syntax does.
space_lower : (b : ℕ) → (lower b == 32) ≡ (b == 32)
space_lower b = grind (arith, nat_tests)

space_same : (b c : ℕ) → lower b ≡ lower c → (b == 32) ≡ (c == 32)
space_same b c e = sym (space_lower b) ∙ ap (λ x. x == 32) e ∙ space_lower c

pub same_some : {A : Type 0} {a b : A} → Some a ≡ Some b → a ≡ b
same_some {a} e = ap (λ o. unwrap_or o a) e

pub none_is_none : {A : Type 0} {a : A} → (let none : Option A = None in none) ≡ Some a → ⊥
none_is_none e = both_ways false refl (ap is_some e)

-- behind a character of both
one_char : (b c : ℕ) (ms : List Mark) (text f : List ℕ) (blank : Bool) (rest : Option (List ℕ)) → lower b ≡ lower c → (b == 32) ≡ blank → ((g : List ℕ) → rest ≡ Some g → g ≡ text_front text) →
    (if blank then Some [] else option_map (λ t. lower b ∷ t) rest) ≡ Some f → f ≡ text_front (c ∷ text)
one_char b c ms text f true rest e blank later so = sym (same_some so) ∙ sym (first_char c text true (sym (space_same b c e) ∙ blank))
one_char b c ms text f false None e blank later so = absurd (none_is_none so)
one_char b c ms text f false (Some g) e blank later so =
    sym (same_some so) ∙ ap (λ x. x ∷ g) e ∙ ap (λ t. lower c ∷ t) (later g refl) ∙ sym (first_char c text false (sym (space_same b c e) ∙ blank))

at_char : (m : Machine) (words : List (List ℕ)) (operands : List ℕ) (b c : ℕ) (ms : List Mark) (text f : List ℕ) (found : List Spelling) (same : Bool) → (lower b == lower c) ≡ same →
    ((g : List ℕ) → split m words operands ms text ≡ Some found → front_of ms ≡ Some g → g ≡ text_front text) →
    (if same then split m words operands ms text else None) ≡ Some found → front_of (Byte b ∷ ms) ≡ Some f → f ≡ text_front (c ∷ text)
at_char m words operands b c ms text f found false same later e h = absurd (none_is_none e)
at_char m words operands b c ms text f found true same later e h =
    one_char b c ms text f (b == 32) (front_of ms) (eqb-true (lower b) (lower c) same) refl (λ g. later g e) h

pub front_same : (m : Machine) (words : List (List ℕ)) (operands : List ℕ) (ms : List Mark) (text f : List ℕ) (found : List Spelling) → split m words operands ms text ≡ Some found → front_of ms ≡ Some f → f ≡ text_front text
unfolding split
front_same m words operands [] [] f found e h = sym (same_some h)
front_same m words operands [] (c ∷ text) f found e h = absurd (none_is_none e)
front_same m words operands (Byte b ∷ ms) [] f found e h = absurd (none_is_none e)
front_same m words operands (Byte b ∷ ms) (c ∷ text) f found e h =
    at_char m words operands b c ms text f found (lower b == lower c) refl (λ g. front_same m words operands ms text g found) e h
front_same m words operands (Slot k ∷ ms) text f found e h = absurd (none_is_none h)

-- So a text that begins otherwise isn't split.
differ : (own front : List ℕ) → same_text own front ≡ false → own ≡ front → ⊥
differ own front e same = both_ways (same_text own front) e ((bytes_decides own front).1 same)

no_split : (m : Machine) (words : List (List ℕ)) (operands : List ℕ) (ms : List Mark) (text : List ℕ) (own : Option (List ℕ)) (r : Option (List Spelling)) → own ≡ front_of ms → may_split own (text_front text) ≡ false → split m words operands ms text ≡ r →
    (let none : Option (List Filled) = None in none) ≡ option_map filled r
no_split m words operands ms text None r o e s = absurd (both_ways true e refl)
no_split m words operands ms text (Some f) None o e s = refl
no_split m words operands ms text (Some f) (Some found) o e s = absurd (differ f (text_front text) e (front_same m words operands ms text f found s (sym o)))

pub pruned : (m : Machine) (words : List (List ℕ)) (operands : List ℕ) (ms : List Mark) (text front : List ℕ) (own : Option (List ℕ)) → own ≡ front_of ms → front ≡ text_front text → may_split own front ≡ false →
    (let none : Option (List Filled) = None in none) ≡ option_map filled (split m words operands ms text)
pruned m words operands ms text front own o f e =
    no_split m words operands ms text own (split m words operands ms text) o (ap (may_split own) (sym f) ∙ e) refl

pub ruleset pruning = (pruned)
