-- Where the slots of a syntax are delimited they are so in the squeezed syntax.
use Rattle.std.specs.Prelude.{ℕ, suc, Bool, true, false, not, ◌&&◌, ◌||◌, ◌==◌, if◌then◌else◌, is_some, List, [], ◌∷◌, ◌++◌, map, Option, Some, None, slice_get}
use Rattle.std.proofs.Common.{◌≡◌, refl, sym, ap, ◌∙◌, subst, append_assoc}
use Rattle.std.proofs.lemmas.Bool.{both_ways, or_parts}
use Rattle.cg_base.specs.Parts.{◌>>=◌}
use Rattle.cg_model_source.specs.Splitting.{operand_at}
use Rattle.cg_model_source.specs.Squeezing.{is_joining, goes_on, put_first, words, ends, behind, spaced, marks, is_blank_mark, is_joining_mark, squeezed_syntax}
use Rattle.cg_model_faults.specs.declared.fault.MachineFault.{MachineFault}
use Rattle.cg_model.specs.declared.insn.Piece.{Piece}
use Rattle.cg_model.specs.declared.insn.Piece.TheVariants as piece
use Rattle.cg_model.specs.declared.machine.Machine.{Machine}
use Rattle.cg_model.specs.declared.operand.Operand.{Operand}
use Rattle.cg_model_source.specs.declared.written.Mark.{Mark}
use Rattle.cg_model_source.specs.declared.written.Mark.TheVariants.{Byte, Slot}
use Rattle.cg_model_faults.specs.E312 as spec
use Rattle.cg_model_faults.specs.E312.{has_words, may_have, undelimited_at, undelimited_piece, undelimited_from, undelimited}
use Rattle.cg_base.specs.Characters.{is_alphanumeric, is_in_word, is_in_sum}
use Rattle.cg_model_faults.specs.Finding.{Faults, where_so, at_place}
use Rattle.cg_model_faults.specs.declared.fault.Said.TheVariants.{Own}
use Rattle.cg_model_faults.specs.declared.fault.Said.TheVariants as said

-- What stands next is a slot, or a character that passes the test.
abbrev pub follows : (ℕ → Bool) → List Mark → Bool
follows test [] = false
follows test (Slot k ∷ ms) = true
follows test (Byte b ∷ ms) = test b

-- No operand's text goes on with what stands next.
abbrev pub Stops : Machine → List Mark → Type 0
Stops m ms = (o : Operand) → follows (may_have m o) ms ≡ false

-- The text of no slot goes on with what stands behind the slot.
abbrev pub AreDelimited : Machine → List ℕ → List Mark → Type 0
AreDelimited m operands [] = Unit {0}
AreDelimited m operands (Byte b ∷ ms) = AreDelimited m operands ms
AreDelimited m operands (Slot k ∷ ms) = ((o : Operand) → operand_at m operands k ≡ Some o → follows (may_have m o) ms ≡ false) × AreDelimited m operands ms

-- Words: each has a mark, and is so.
abbrev pub AreWords : Machine → List ℕ → List (List Mark) → Type 0
AreWords m operands [] = Unit {0}
AreWords m operands ([] ∷ ws) = ⊥
AreWords m operands ((x ∷ w) ∷ ws) = AreDelimited m operands (x ∷ w) × AreWords m operands ws

in_sum : (a under dot percent dollar plus minus : Bool) → ((a || under || dot || percent || dollar) || plus || minus) ≡ false → (a || under || dot || plus || minus) ≡ false
in_sum true under dot percent dollar plus minus e = absurd (both_ways true e refl)
in_sum false true dot percent dollar plus minus e = absurd (both_ways true e refl)
in_sum false false true percent dollar plus minus e = absurd (both_ways true e refl)
in_sum false false false true dollar plus minus e = absurd (both_ways true e refl)
in_sum false false false false true plus minus e = absurd (both_ways true e refl)
in_sum false false false false false plus minus e = e

picked : (h : Bool) (b : ℕ) → is_joining b ≡ false → (if h then is_in_word b else is_in_sum b) ≡ false
picked true b e = (or_parts (is_in_word b) (b == 43) (or_parts (is_in_word b || b == 43) (b == 45) e).0).0
picked false b e = in_sum (is_alphanumeric b) (b == 95) (b == 46) (b == 37) (b == 36) (b == 43) (b == 45) e

not_joining : (m : Machine) (o : Operand) (b : ℕ) → is_joining b ≡ false → may_have m o b ≡ false
not_joining m o b e = picked (has_words m o) b e

-- A space stops every text.
stops_space : (m : Machine) (ms : List Mark) → Stops m (Byte 32 ∷ ms)
stops_space m ms o = not_joining m o 32 refl

abbrev pub is_slot : Mark → Bool
is_slot (Byte b) = false
is_slot (Slot k) = true

slot_joins : (w : List Mark) → ends is_slot w ≡ true → ends is_joining_mark w ≡ true
slot_joins [] e = absurd (both_ways false refl e)
slot_joins (Byte b ∷ []) e = absurd (both_ways false refl e)
slot_joins (Slot k ∷ []) e = refl
slot_joins (x ∷ y ∷ ys) e = slot_joins (y ∷ ys) e

follows_on : (test : ℕ → Bool) (y : Mark) (ys rest : List Mark) → follows test ((y ∷ ys) ++ rest) ≡ follows test (y ∷ ys)
follows_on test (Byte b) ys rest = refl
follows_on test (Slot k) ys rest = refl

joined : (m : Machine) (operands : List ℕ) (w rest : List Mark) → AreDelimited m operands w → AreDelimited m operands rest → (ends is_slot w ≡ true → Stops m rest) → AreDelimited m operands (w ++ rest)
joined m operands [] rest d r s = r
joined m operands (Byte b ∷ []) rest d r s = r
joined m operands (Slot k ∷ []) rest d r s = ((λ o at. s refl o), r)
joined m operands (Byte b ∷ y ∷ ys) rest d r s = joined m operands (y ∷ ys) rest d r s
joined m operands (Slot k ∷ y ∷ ys) rest d r s = ((λ o at. follows_on (may_have m o) y ys rest ∙ d.0 o at), joined m operands (y ∷ ys) rest d.1 r s)

-- What stands behind a word is delimited, and stops a text that ends the word.
pub record IsBehind (m : Machine) (operands : List ℕ) (w rest : List Mark) : Type 0 where
  pub delimited : AreDelimited m operands rest
  pub stops : ends is_slot w ≡ true → Stops m rest

-- a word that begins with a character beside which blanks say nothing
stops_word : (m : Machine) (y : Mark) (ys rest : List Mark) → is_joining_mark y ≡ false → Stops m ((y ∷ ys) ++ rest)
stops_word m (Slot k) ys rest e = absurd (both_ways true e refl)
stops_word m (Byte b) ys rest e = λ o. not_joining m o b e

apart : (j : Bool) (m : Machine) (operands : List ℕ) (w : List Mark) (y : Mark) (ys rest : List Mark) →
    (ends is_joining_mark w && is_joining_mark y) ≡ j → AreDelimited m operands ((y ∷ ys) ++ rest) →
    IsBehind m operands w ((if j then Byte 32 ∷ y ∷ ys else (y ∷ ys)) ++ rest)
apart true m operands w y ys rest e d = record { delimited = d; stops = λ s. stops_space m ((y ∷ ys) ++ rest) }
apart false m operands w y ys rest e d = record { delimited = d; stops = λ s. stops_word m y ys rest (ap (λ t. t && is_joining_mark y) (sym (slot_joins w s)) ∙ e) }

is_behind : (m : Machine) (operands : List ℕ) (w : List Mark) (vs : List (List Mark)) → AreWords m operands vs → IsBehind m operands w (behind is_joining_mark (Byte 32) w vs)
is_behind m operands w [] d = record { delimited = tt; stops = λ s o. refl }
is_behind m operands w ([] ∷ vs) d = absurd d
is_behind m operands w ((y ∷ ys) ∷ vs) d =
    let next : IsBehind m operands (y ∷ ys) (behind is_joining_mark (Byte 32) (y ∷ ys) vs) = is_behind m operands (y ∷ ys) vs d.1 in
    apart (ends is_joining_mark w && is_joining_mark y) m operands w y ys (behind is_joining_mark (Byte 32) (y ∷ ys) vs) refl (joined m operands (y ∷ ys) (behind is_joining_mark (Byte 32) (y ∷ ys) vs) d.0 next.delimited next.stops)

spaced_delimited : (m : Machine) (operands : List ℕ) (ws : List (List Mark)) → AreWords m operands ws → AreDelimited m operands (spaced is_joining_mark (Byte 32) ws)
spaced_delimited m operands [] d = tt
spaced_delimited m operands ([] ∷ ws) d = absurd d
spaced_delimited m operands ((x ∷ w) ∷ []) d = d.0
spaced_delimited m operands ((x ∷ w) ∷ [] ∷ ws) d = absurd d.1
spaced_delimited m operands ((x ∷ w) ∷ (y ∷ ys) ∷ vs) d =
    let next : IsBehind m operands (y ∷ ys) (behind is_joining_mark (Byte 32) (y ∷ ys) vs) = is_behind m operands (y ∷ ys) vs d.1.1 in
    subst (λ t. AreDelimited m operands t) (sym (append_assoc (x ∷ w) (Byte 32 ∷ y ∷ ys) (behind is_joining_mark (Byte 32) (y ∷ ys) vs)))
    (joined m operands (x ∷ w) ((Byte 32 ∷ y ∷ ys) ++ behind is_joining_mark (Byte 32) (y ∷ ys) vs) d.0
    (joined m operands (y ∷ ys) (behind is_joining_mark (Byte 32) (y ∷ ys) vs) d.1.0 next.delimited next.stops)
    (λ s. stops_space m ((y ∷ ys) ++ behind is_joining_mark (Byte 32) (y ∷ ys) vs)))

first_of : List (List Mark) → List Mark
first_of [] = []
first_of (w ∷ ws) = w

put_follows : (test : ℕ → Bool) (x : Mark) (inside : Bool) (ws : List (List Mark)) (rest : List Mark) → follows test (first_of (put_first x inside ws)) ≡ follows test (x ∷ rest)
unfolding first_of
put_follows test (Byte b) true [] rest = refl
put_follows test (Byte b) true (w ∷ ws) rest = refl
put_follows test (Byte b) false ws rest = refl
put_follows test (Slot k) true [] rest = refl
put_follows test (Slot k) true (w ∷ ws) rest = refl
put_follows test (Slot k) false ws rest = refl

word_follows : (test : ℕ → Bool) (blank : Bool) (x : Mark) (xs : List Mark) (ws : List (List Mark)) → not blank ≡ true →
    follows test (first_of (if blank then ws else put_first x (goes_on is_blank_mark xs) ws)) ≡ follows test (x ∷ xs)
word_follows test true x xs ws e = absurd (both_ways false refl e)
word_follows test false x xs ws e = put_follows test x (goes_on is_blank_mark xs) ws xs

-- The words of marks that go on with a word begin as the marks do.
first_follows : (xs : List Mark) → goes_on is_blank_mark xs ≡ true → (test : ℕ → Bool) → follows test (first_of (words is_blank_mark xs)) ≡ follows test xs
first_follows [] e test = absurd (both_ways false refl e)
first_follows (x ∷ xs) e test = word_follows test (is_blank_mark x) x xs (words is_blank_mark xs) e

alone : (m : Machine) (operands : List ℕ) (x : Mark) → AreDelimited m operands (x ∷ [])
alone m operands (Byte b) = tt
alone m operands (Slot k) = ((λ o at. refl), tt)

later : (m : Machine) (operands : List ℕ) (x : Mark) (xs : List Mark) → AreDelimited m operands (x ∷ xs) → AreDelimited m operands xs
later m operands (Byte b) xs d = d
later m operands (Slot k) xs d = d.1

put_words : (m : Machine) (operands : List ℕ) (x : Mark) (xs : List Mark) (inside : Bool) (ws : List (List Mark)) → AreDelimited m operands (x ∷ xs) → AreWords m operands ws →
    (inside ≡ true → (test : ℕ → Bool) → follows test (first_of ws) ≡ follows test xs) → AreWords m operands (put_first x inside ws)
unfolding first_of
put_words m operands x xs false ws d a f = (alone m operands x, a)
put_words m operands x xs true [] d a f = (alone m operands x, tt)
put_words m operands x xs true ([] ∷ ws) d a f = absurd a
put_words m operands (Byte b) xs true ((y ∷ ys) ∷ ws) d a f = a
put_words m operands (Slot k) xs true ((y ∷ ys) ∷ ws) d a f = (((λ o at. f refl (may_have m o) ∙ d.0 o at), a.0), a.1)

one_more : (m : Machine) (operands : List ℕ) (x : Mark) (xs : List Mark) (blank : Bool) → AreDelimited m operands (x ∷ xs) → AreWords m operands (words is_blank_mark xs) →
    AreWords m operands (if blank then words is_blank_mark xs else put_first x (goes_on is_blank_mark xs) (words is_blank_mark xs))
one_more m operands x xs true d a = a
one_more m operands x xs false d a = put_words m operands x xs (goes_on is_blank_mark xs) (words is_blank_mark xs) d a (first_follows xs)

are_words : (m : Machine) (operands : List ℕ) (ms : List Mark) → AreDelimited m operands ms → AreWords m operands (words is_blank_mark ms)
are_words m operands [] d = tt
are_words m operands (x ∷ xs) d = one_more m operands x xs (is_blank_mark x) d (are_words m operands xs (later m operands x xs d))

bytes_delimited : (m : Machine) (operands text : List ℕ) (rest : List Mark) → AreDelimited m operands rest → AreDelimited m operands (map Byte text ++ rest)
bytes_delimited m operands [] rest d = d
bytes_delimited m operands (b ∷ bs) rest d = bytes_delimited m operands bs rest d

has_one : {A : Type 0} → List A → Bool
has_one [] = false
has_one (x ∷ xs) = true

none_of : {A : Type 0} (xs ys : List A) → xs ++ ys ≡ [] → (xs ≡ []) × (ys ≡ [])
unfolding has_one
none_of [] ys e = (refl, e)
none_of (x ∷ xs) ys e = absurd (both_ways true (ap has_one e) refl)

not_so : (holds : Bool) (fault : MachineFault) → where_so holds fault ≡ [] → holds ≡ false
unfolding has_one
not_so true fault e = absurd (both_ways true (ap has_one e) refl)
not_so false fault e = refl

goes_follows : (test : ℕ → Bool) (ps : List Piece) → spec.goes_on test ps ≡ follows test (marks ps)
goes_follows test [] = refl
goes_follows test (piece.Slot k ∷ ps) = refl
goes_follows test (piece.Literal [] ∷ ps) = goes_follows test ps
goes_follows test (piece.Literal (b ∷ bs) ∷ ps) = refl

held : {A : Type 0} → A → Option A → A
held a None = a
held a (Some b) = b

pub same_some : {A : Type 0} {a b : A} → Some a ≡ Some b → a ≡ b
unfolding held
same_some {A} {a} {b} e = ap (held a) e

pub none_is_none : {A : Type 0} {b : A} → None ≡ Some b → ⊥
none_is_none e = both_ways false refl (ap is_some e)

operand_stops : (m : Machine) (place k : ℕ) (ps : List Piece) (found : Option Operand) →
    (elim found as (λ x. Faults) [ None ↦ [] | Some o ↦ where_so (spec.goes_on (may_have m o) ps) (at_place 312 place Own (said.Operand k)) ]) ≡ [] →
    (o : Operand) → found ≡ Some o → follows (may_have m o) (marks ps) ≡ false
operand_stops m place k ps None e o at = absurd (none_is_none at)
operand_stops m place k ps (Some p) e o at =
    let stop : follows (may_have m p) (marks ps) ≡ false = sym (goes_follows (may_have m p) ps) ∙ not_so (spec.goes_on (may_have m p) ps) (at_place 312 place Own (said.Operand k)) e in
    subst (λ q. follows (may_have m q) (marks ps) ≡ false) (same_some at) stop

slot_stops : (m : Machine) (place : ℕ) (ps : List Piece) (number : Option ℕ) →
    (elim number as (λ x. Faults) [ None ↦ [] | Some o ↦ undelimited_at m place o ps ]) ≡ [] →
    (o : Operand) → (number >>= slice_get m.operands) ≡ Some o → follows (may_have m o) (marks ps) ≡ false
slot_stops m place ps None e o at = absurd (none_is_none at)
slot_stops m place ps (Some n) e o at = operand_stops m place n ps (slice_get m.operands n) e o at

-- The marks of a syntax in which E312 finds nothing.
marks_delimited : (m : Machine) (operands : List ℕ) (place : ℕ) (ps : List Piece) → undelimited_from m operands place ps ≡ [] → AreDelimited m operands (marks ps)
marks_delimited m operands place [] e = tt
marks_delimited m operands place (piece.Literal text ∷ ps) e = bytes_delimited m operands text (marks ps) (marks_delimited m operands (suc place) ps e)
marks_delimited m operands place (piece.Slot s ∷ ps) e =
    let parts : (undelimited_piece m operands place (piece.Slot s) ps ≡ []) × (undelimited_from m operands (suc place) ps ≡ []) = none_of (undelimited_piece m operands place (piece.Slot s) ps) (undelimited_from m operands (suc place) ps) e in
    ((λ o at. slot_stops m place ps (slice_get operands s) parts.0 o at), marks_delimited m operands (suc place) ps parts.1)

pub syntax_delimited : (m : Machine) (operands : List ℕ) (ps : List Piece) → undelimited m operands ps ≡ [] → AreDelimited m operands (squeezed_syntax ps)
syntax_delimited m operands ps e = spaced_delimited m operands (words is_blank_mark (marks ps)) (are_words m operands (marks ps) (marks_delimited m operands 0 ps e))
