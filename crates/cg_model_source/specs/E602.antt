-- E602: a text that some syntax splits while nothing that it may be fits; or a sum of a directive, without a label, that is out of range.
use Rattle.std.specs.Prelude.{ℕ, ◌*◌, if◌then◌else◌, List, [], ◌∷◌, ◌++◌, ℤ, Option, Some, None}
use Rattle.std.specs.Fmt.{signed_decimal}
use Rattle.cg_model_source.specs.Bundling.{BundlePart, all_refused_as}
use Rattle.cg_model_source.specs.Choosing.{SourceFault, known, is_within}
use Rattle.cg_model_source.specs.Sourcing.{Content, Order, order, parts, data_of}
use Rattle.cg_model_source.specs.declared.written.Sum.{Sum}

-- A number of a directive, which must fit so many bytes. What is said is the directive and the number.
abbrev pub unfit_number : ℕ → List ℕ → ℕ → ℤ → List SourceFault
unfit_number number name width z = if is_within (8 * width) z then [] else record { number = number; text = name; other = signed_decimal z } ∷ []

abbrev pub unfit_sum : List ℕ → ℕ → Option ℤ → List SourceFault
unfit_sum name width None = []
unfit_sum name width (Some z) = unfit_number 602 name width z

abbrev pub unfit_sums : List ℕ → ℕ → List Sum → List SourceFault
unfit_sums name width [] = []
unfit_sums name width (s ∷ ss) = unfit_sum name width (known s) ++ unfit_sums name width ss

abbrev pub unfit_data : Order → List SourceFault
unfit_data (data_of name width ss) = unfit_sums name width ss
unfit_data _ = []

abbrev pub unfit_parts : List BundlePart → List SourceFault
unfit_parts ps = all_refused_as 602 ps

abbrev pub unfit_texts : Content → List SourceFault
unfit_texts (order o) = unfit_data o
unfit_texts (parts ps) = unfit_parts ps
