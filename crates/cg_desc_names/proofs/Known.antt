-- What a machine knows, by what is kept of it.
use Rattle.std.proofs.Common.{◌≡◌, ℕ, List, Option, ap}
use Rattle.std.specs.Option.{option_or}
use Rattle.cg_desc_elements.specs.declared.element.Element.{Element}
use Rattle.cg_desc_elements.specs.declared.kind.Namespace.{Namespace}
use Rattle.cg_desc_elements.specs.declared.kind.Namespace.TheVariants.{Archs, Isas, Cpus, Machs, Models, Attrs, Enums, Keywords, Fields, Hardwares, Operands, Insns, Macros, Constants}
use Rattle.cg_desc_names.specs.declared.names.Names.{Names}
use Rattle.cg_desc_names.specs.Table.{Keeps, KeepsTwo, KeepsFrames, KeepsWords, KeepsElements, KeepsConstants, KeepsOthers, KeepsFrameNames, KeepsElementNames, KeepsAll, built_in, table_of, known}

-- name by name
pub known_at : (machine : List ℕ) (isa : Option (List ℕ)) (es : List Element) (names : Names) → KeepsAll machine isa es names → (among : Namespace) (name : List ℕ) → known names among name ≡ table_of machine isa es among name
unfolding known Keeps KeepsTwo KeepsFrames KeepsWords KeepsElements KeepsConstants KeepsOthers KeepsFrameNames KeepsElementNames KeepsAll
known_at machine isa es names all Archs name = all.0.0.0.0 name
known_at machine isa es names all Machs name = all.0.0.0.1 name
known_at machine isa es names all Isas name = all.0.0.1.0 name
known_at machine isa es names all Cpus name = all.0.0.1.1 name
known_at machine isa es names all Models name = all.0.1.0.0 name
known_at machine isa es names all Attrs name = all.0.1.0.1 name
known_at machine isa es names all Enums name = all.0.1.1.0 name
known_at machine isa es names all Keywords name = all.0.1.1.1 name
known_at machine isa es names all Fields name = all.1.0.0.0 name
known_at machine isa es names all Hardwares name = ap (option_or (built_in Hardwares name)) (all.1.0.0.1 name)
known_at machine isa es names all Operands name = ap (option_or (built_in Operands name)) (all.1.0.1.0 name)
known_at machine isa es names all Insns name = all.1.0.1.1 name
known_at machine isa es names all Macros name = all.1.1.0 name
known_at machine isa es names all Constants name = all.1.1.1 name

-- for all of them
pub known_is : (machine : List ℕ) (isa : Option (List ℕ)) (es : List Element) (names : Names) → KeepsAll machine isa es names → known names ≡ table_of machine isa es
known_is machine isa es names all = λ i among name. known_at machine isa es names all among name i
