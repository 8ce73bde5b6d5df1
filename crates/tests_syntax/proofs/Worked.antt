-- What the definitions give on the machine made by hand.
use Rattle.std.specs.Prelude.{[], ◌∷◌, ◌++◌, codes, pos, Ok, Err}
use Rattle.std.specs.Fmt.{signed_decimal}
use Rattle.std.proofs.Common.{◌≡◌, refl}
use Rattle.cg_model_source.specs.Choosing.{objection, chosen}
use Rattle.cg_model_source.specs.Imaging.{image}
use Rattle.cg_model_source.specs.Lining.{read_line}
use Rattle.cg_model_source.specs.Sourcing.{only_set, reading}
use Rattle.cg_model_source.specs.Spelling.{sum_of, spelled}
use Rattle.cg_model_source.specs.Splitting.{split}
use Rattle.cg_model_source.specs.Squeezing.{squeezed}
use Rattle.tests_syntax.specs.Examples.{tiny, refused}

pub once : squeezed (codes "  add   r1 , r2 ") ≡ codes "add r1,r2"
once = refl

pub kept : squeezed (codes "( a) b c (d)") ≡ codes "( a)b c(d)"
kept = refl

pub loaded : image (only_set tiny) 0 (codes "ldi r3,200") ≡ Ok (35 ∷ 200 ∷ [])
unfolding image reading read_line chosen objection split spelled sum_of
loaded = refl

pub labelled : image (only_set tiny) 4 (codes "x: LDI R1,x+1 ; note") ≡ Ok (33 ∷ 5 ∷ [])
unfolding image reading read_line chosen objection split spelled sum_of
labelled = refl

pub too_much : image (only_set tiny) 0 (codes "ldi r3,256") ≡ Err (refused 602 1 (codes "imm8") (signed_decimal (pos 256)))
unfolding image reading read_line chosen objection split spelled sum_of
too_much = refl

pub unknown : image (only_set tiny) 0 (codes "frob r1") ≡ Err (refused 601 1 (codes "frob r1") [])
unfolding image reading read_line chosen objection split spelled sum_of
unknown = refl

pub twice : image (only_set tiny) 0 (codes "x: .byte 1" ++ 10 ∷ codes "x: .byte 2") ≡ Err (refused 603 2 (codes "x") [])
unfolding image reading read_line chosen objection split spelled sum_of
twice = refl
