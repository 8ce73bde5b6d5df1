-- What a name may stand for, and which of these share their names.
use Rattle.cg_desc_elements.specs.declared.kind.Kind.{Kind}
use Rattle.cg_desc_elements.specs.declared.kind.Kind.TheVariants as kind
use Rattle.cg_desc_elements.specs.declared.kind.Namespace.{Namespace}
use Rattle.cg_desc_elements.specs.declared.kind.Namespace.TheVariants.{Archs, Isas, Cpus, Machs, Models, Attrs, Enums, Keywords, Fields, Hardwares, Operands, Insns, Macros, Constants}

abbrev pub namespace_of : Kind → Namespace
namespace_of kind.Arch = Archs
namespace_of kind.Isa = Isas
namespace_of kind.Cpu = Cpus
namespace_of kind.Mach = Machs
namespace_of kind.Model = Models
namespace_of kind.Attr = Attrs
namespace_of kind.Enum = Enums
namespace_of kind.InsnEnum = Enums
namespace_of kind.Keyword = Keywords
namespace_of kind.Field = Fields
namespace_of kind.Multi = Fields
namespace_of kind.Hardware = Hardwares
namespace_of kind.Operand = Operands
namespace_of kind.Derived = Operands
namespace_of kind.Anyof = Operands
namespace_of kind.Pc = Operands
namespace_of kind.Insn = Insns
namespace_of kind.Macro = Macros
namespace_of kind.Constant = Constants
namespace_of kind.FieldConstant = Constants
