-- Which instruction a text is: of the instructions, and then of the macro instructions, the first that it fits.
use Rattle.std.specs.Prelude.{ℕ, suc, ◌-◌, ◌^◌, Bool, not, ◌&&◌, ◌==◌, if◌then◌else◌, is_some, List, [], ◌∷◌, ◌++◌, ℤ, pos, neg_ℤ, int_lt, int_le, Option, Some, None, slice_get, Result, Ok, Err, codes, find}
use Rattle.std.specs.Fmt.{signed_decimal}
use Rattle.std.specs.List.{list_all}
use Rattle.std.specs.Option.{option_or}
use Rattle.cg_base.specs.Modes.{bits_of}
use Rattle.cg_base.specs.Operations.{wrapped}
use Rattle.cg_model.specs.Encoding.{candidate, own_pc}
use Rattle.cg_model.specs.Matching.{asserts}
use Rattle.cg_model.specs.Slots.{slot_mode, slots_of, values}
use Rattle.cg_model_source.specs.Spelling.{just}
use Rattle.cg_model_source.specs.Splitting.{Spelling, split}
use Rattle.cg_model_source.specs.Squeezing.{squeezed, squeezed_syntax}
use Rattle.cg_model.specs.declared.insn.Given.{Given}
use Rattle.cg_model.specs.declared.insn.Given.TheVariants as given
use Rattle.cg_model.specs.declared.insn.Insn.{Insn}
use Rattle.cg_model.specs.declared.insn.MacroInsn.{MacroInsn}
use Rattle.cg_model.specs.declared.machine.Machine.{Machine}
use Rattle.cg_model.specs.declared.operand.Operand.{Operand}
use Rattle.cg_model_source.specs.declared.written.Sum.{Sum}
use Rattle.cg_model_source.specs.declared.written.Term.{Term}
use Rattle.cg_model_faults.specs.E313.{slot_operands}

-- An instruction, its number, and what its slots are given, in the format's order.
pub record Choice : Type 0 where
  pub number : ℕ
  pub insn : Insn
  pub sums : List Sum

-- What a slot is given: what is written in it.
abbrev pub sum_at : ℕ → List Spelling → Sum
sum_at k [] = just (pos 0)
sum_at k (w ∷ ws) = if w.slot == k then w.sum else sum_at k ws

abbrev pub sums_from : ℕ → List ℕ → List Spelling → List Sum
sums_from k [] found = []
sums_from k (o ∷ os) found = sum_at k found ∷ sums_from (suc k) os found

-- An instruction whose syntax a text is.
abbrev pub as_written : ℕ → Insn → Option (List Spelling) → List Choice
as_written k i None = []
as_written k i (Some found) = record { number = k; insn = i; sums = sums_from 0 (slot_operands i.parts) found } ∷ []

abbrev pub split_by_insn : Machine → List (List ℕ) → List ℕ → Insn → Option (List Spelling)
split_by_insn m words text i = split m words (slot_operands i.parts) (squeezed_syntax i.pieces) text

-- The instructions, counted from k on, whose syntax a squeezed text is.
abbrev pub insns_splitting : Machine → List (List ℕ) → List ℕ → ℕ → List Insn → List Choice
insns_splitting m words text k [] = []
insns_splitting m words text k (i ∷ is) = as_written k i (split_by_insn m words text i) ++ insns_splitting m words text (suc k) is

-- What a macro instruction gives a slot of the instruction that it emits: a number of its own, or what is written in its own slot.
abbrev pub given_sum : List Spelling → Given → Sum
given_sum found (given.Number n) = just n
given_sum found (given.Slot k) = sum_at k found

abbrev pub given_sums : List Spelling → List Given → List Sum
given_sums found [] = []
given_sums found (g ∷ gs) = given_sum found g ∷ given_sums found gs

-- The instruction that a macro instruction emits, where a text is its syntax.
abbrev pub as_emitted : MacroInsn → Option Insn → Option (List Spelling) → List Choice
as_emitted x (Some i) (Some found) = record { number = x.target; insn = i; sums = given_sums found x.given } ∷ []
as_emitted x _ _ = []

abbrev pub split_by_macro : Machine → List (List ℕ) → List ℕ → MacroInsn → Option (List Spelling)
split_by_macro m words text x = split m words x.operands (squeezed_syntax x.pieces) text

abbrev pub macros_splitting : Machine → List (List ℕ) → List ℕ → List MacroInsn → List Choice
macros_splitting m words text [] = []
macros_splitting m words text (x ∷ xs) = as_emitted x (slice_get m.insns x.target) (split_by_macro m words text x) ++ macros_splitting m words text xs

-- All that a text may be: the instructions whose syntax it is, and then those that macro instructions emit whose syntax it is.
abbrev pub splitting : Machine → List (List ℕ) → List ℕ → List Choice
splitting m words text = insns_splitting m words (squeezed text) 0 m.insns ++ macros_splitting m words (squeezed text) m.macros

-- What a refusal says: what is at fault, and its value.
pub record Objection : Type 0 where
  pub text : List ℕ
  pub other : List ℕ

-- The number of a sum that has no label.
abbrev pub known_number : ℤ → List Term → Option ℤ
known_number z [] = Some z
known_number z (t ∷ ts) = None

abbrev pub known : Sum → Option ℤ
known s = known_number s.number s.terms

abbrev pub known_all : List Sum → List (Option ℤ)
known_all [] = []
known_all (s ∷ ss) = known s ∷ known_all ss

-- A number from -2 ^ (bits - 1) to 2 ^ bits - 1.
abbrev pub is_within : ℕ → ℤ → Bool
is_within bits z = int_le (neg_ℤ (pos (2 ^ (bits - 1)))) z && int_lt z (pos (2 ^ bits))

-- The value of a slot for its number, which is taken modulo 2 ^ bits of its mode. One that isn't known stands for 0 while others are
-- judged.
abbrev pub value_for : Machine → Operand → Option ℤ → ℕ
value_for m o None = 0
value_for m o (Some z) = wrapped (bits_of (slot_mode m o)) z

abbrev pub values_for : Machine → List Operand → List (Option ℤ) → List ℕ
values_for m (o ∷ os) (n ∷ ns) = value_for m o n ∷ values_for m os ns
values_for m _ _ = []

-- The bytes for the numbers of slots.
abbrev pub bytes_for : Machine → Insn → List (Option ℤ) → ℕ → List ℕ
bytes_for m i numbers pc = candidate m i (values_for m (slots_of m i.parts) numbers) (own_pc m pc)

-- A number is in range where it lies in the range of its slot's mode and its value comes back from the bytes.
abbrev pub is_in_range : Machine → Operand → ℤ → ℕ → Bool
is_in_range m o z back = is_within (bits_of (slot_mode m o)) z && value_for m o (Some z) == back

abbrev pub range_objection : Machine → Operand → Option ℤ → ℕ → Option Objection
range_objection m o None back = None
range_objection m o (Some z) back = if is_in_range m o z back then None else Some (record { text = o.name; other = signed_decimal z })

-- The first slot whose number is out of range, of those whose numbers are known.
abbrev pub first_out_of_range : Machine → List Operand → List (Option ℤ) → List ℕ → Option Objection
first_out_of_range m (o ∷ os) (n ∷ ns) (back ∷ backs) = option_or (range_objection m o n back) (first_out_of_range m os ns backs)
first_out_of_range m _ _ _ = None

-- Where all numbers are known, the assertion must hold.
abbrev pub assertion_objection : Machine → Insn → List (Option ℤ) → List ℕ → Option Objection
assertion_objection m i numbers bytes = if list_all is_some numbers && not (asserts m i bytes) then Some (record { text = codes "ifield-assertion"; other = [] }) else None

abbrev pub objection_in : Machine → Insn → List (Option ℤ) → ℕ → List ℕ → Option Objection
objection_in m i numbers pc bytes = option_or (first_out_of_range m (slots_of m i.parts) numbers (values m i bytes (own_pc m pc))) (assertion_objection m i numbers bytes)

-- What keeps an instruction at a pc from standing with these numbers, where something does.
unfoldable pub objection : Machine → Insn → List (Option ℤ) → ℕ → Option Objection
objection m i numbers pc = objection_in m i numbers pc (bytes_for m i numbers pc)

abbrev pub choice_objection : Machine → ℕ → Choice → Option Objection
choice_objection m pc c = objection m c.insn (known_all c.sums) pc

-- Nothing is against it, as far as the numbers are known.
abbrev pub fits : Machine → ℕ → Choice → Bool
fits m pc c = not (is_some (choice_objection m pc c))

-- What a part of a source is refused for: the number of the refusal, and what it says.
pub record SourceFault : Type 0 where
  pub number : ℕ
  pub text : List ℕ
  pub other : List ℕ

abbrev pub said_as : ℕ → Objection → SourceFault
said_as number o = record { number = number; text = o.text; other = o.other }

-- A text that is refused as it is, with nothing else to say.
abbrev pub alone : ℕ → List ℕ → SourceFault
alone number text = record { number = number; text = text; other = [] }

-- E601: no syntax splits the text.
abbrev pub unknown : List ℕ → SourceFault
unknown text = alone 601 (squeezed text)

-- E602: some syntax does, but nothing that the text may be fits. The first of these says why.
abbrev pub unfit : Option Objection → List ℕ → SourceFault
unfit None text = unknown text
unfit (Some o) text = said_as 602 o

abbrev pub unchosen : Machine → ℕ → List ℕ → List Choice → SourceFault
unchosen m pc text [] = unknown text
unchosen m pc text (c ∷ cs) = unfit (choice_objection m pc c) text

abbrev pub chosen_of : SourceFault → Option Choice → Result Choice SourceFault
chosen_of fault None = Err fault
chosen_of fault (Some c) = Ok c

abbrev pub chosen_among : Machine → ℕ → List ℕ → List Choice → Result Choice SourceFault
chosen_among m pc text cs = chosen_of (unchosen m pc text cs) (find (fits m pc) cs)

-- What is chosen for a text at a pc, where no label may be one of these keywords.
unfoldable pub chosen : Machine → List (List ℕ) → ℕ → List ℕ → Result Choice SourceFault
chosen m words pc text = chosen_among m pc text (splitting m words text)
