-- The parts of a bundle, by the numbers of their instructions, with addresses modulo 2 ^ 64.
use Rattle.std.specs.Prelude.{ℕ, ◌%◌, ◌^◌, Bool, true, false, ◌==◌, if◌then◌else◌, List, [], ◌∷◌, Option, Some, None}
use Rattle.std.specs.List.{list_any}
use Rattle.std.specs.Option.{option_or}
use Rattle.cg_base.specs.declared.refusal.Refusal.{Refusal}
use Rattle.cg_syntax_choose.specs.Trying.{told_choice, fault_refusal}
use Rattle.cg_model_source.specs.Bundling.{BundlePart, empty, refused, stands}
use Rattle.cg_model.specs.Clashing.{length_at}
use Rattle.cg_model.specs.declared.machine.Machine.{Machine}
use Rattle.cg_model_source.specs.declared.written.Sum.{Sum}
use Rattle.cg_model_source.specs.declared.written.Term.{Term}
use Rattle.cg_syntax.specs.declared.bundle.Part.{Part}
use Rattle.cg_syntax.specs.declared.bundle.Part.TheVariants.{Empty, Refused, Stands}

abbrev pub told_part : BundlePart → Part
told_part empty = Empty
told_part (refused fault) = Refused (fault_refusal fault)
told_part (stands address c) = Stands (address % 2 ^ 64) (told_choice c)

abbrev pub told_parts : List BundlePart → List Part
told_parts [] = []
told_parts (p ∷ ps) = told_part p ∷ told_parts ps

abbrev pub part_size : Machine → Part → ℕ
part_size m (Stands address c) = length_at m c.insn
part_size m _ = 0

-- The refusal of a part that is refused under a number, and the first of several.
abbrev pub refused_as : ℕ → Part → Option Refusal
refused_as number (Refused r) = if r.number == number then Some r else None
refused_as number _ = None

abbrev pub first_refused : ℕ → List Part → Option Refusal
first_refused number [] = None
first_refused number (p ∷ ps) = option_or (refused_as number p) (first_refused number ps)

-- The first label that is named.
abbrev pub label_of : List Term → Option (List ℕ)
label_of [] = None
label_of (t ∷ ts) = Some t.label

abbrev pub first_term : List Sum → Option (List ℕ)
first_term [] = None
first_term (s ∷ ss) = option_or (label_of s.terms) (first_term ss)

abbrev pub part_label : Part → Option (List ℕ)
part_label (Stands address c) = first_term c.sums
part_label _ = None

abbrev pub first_label : List Part → Option (List ℕ)
first_label [] = None
first_label (p ∷ ps) = option_or (part_label p) (first_label ps)

abbrev pub is_empty : Part → Bool
is_empty Empty = true
is_empty _ = false

abbrev pub has_empty : List Part → Bool
has_empty ps = list_any is_empty ps
