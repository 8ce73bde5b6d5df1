-- What the frames of a machine say: its arch, its cpu and its instruction set. Where one of them is lacking, which is a fault, what it
-- would say is made up for.
use Rattle.std.specs.Prelude.{ℕ, ◌&&◌, min, max, Bool, false, if◌then◌else◌, List, ℤ, pos, negsuc, Option, Some, None, is_some, codes}
use Rattle.std.specs.Option.{unwrap_or}
use Rattle.cg_base.specs.declared.mode.Endian.{Endian}
use Rattle.cg_base.specs.declared.mode.Endian.TheVariants.{Big, Little}
use Rattle.cg_base.specs.Parts.{◌>>=◌}
use Rattle.cg_base.specs.Texts.{same_text}
use Rattle.cg_attrs.specs.declared.frame.ArchForm.{ArchForm}
use Rattle.cg_attrs.specs.declared.frame.CpuForm.{CpuForm}
use Rattle.cg_attrs.specs.declared.frame.IsaForm.{IsaForm}
use Rattle.cg_attrs.specs.declared.frame.Frame.TheVariants.{Cpu, Isa}
use Rattle.cg_desc_elements.specs.declared.element.Element.{Element}
use Rattle.cg_desc_elements.specs.declared.element.Element.TheVariants.{Frame}
use Rattle.cg_desc_elements.specs.declared.kind.Namespace.TheVariants.{Cpus, Isas}
use Rattle.cg_desc_elements.specs.E318.{selected_arch}
use Rattle.cg_model.specs.declared.machine.Alignment.{Alignment}
use Rattle.cg_model.specs.declared.machine.Alignment.TheVariants.{Aligned, Unaligned, Forced}
use Rattle.cg_desc_data.specs.Selecting.{Selection, named}
use Rattle.cg_desc_data.specs.declared.framing.Framing.{Framing}

-- The number from 0 to `most` that is nearest to a number.
abbrev pub cut : ℕ → ℤ → ℕ
cut most (pos n) = min n most
cut most (negsuc n) = 0

-- A count of bits: 8 at least.
abbrev pub size : ℤ → ℕ
size n = max 8 (cut 255 n)

-- The selected cpu and instruction set.
abbrev pub cpu_in : Element → Option CpuForm
cpu_in (Frame (Cpu form)) = Some form
cpu_in _ = None

abbrev pub isa_in : Element → Option IsaForm
isa_in (Frame (Isa form)) = Some form
isa_in _ = None

abbrev pub selected_cpu : Selection → Option CpuForm
selected_cpu s = named s Cpus s.mach.cpu >>= cpu_in

abbrev pub isa_named : Selection → List ℕ → Option IsaForm
isa_named s name = named s Isas name >>= isa_in

abbrev pub isa_form : Selection → Option IsaForm
isa_form s = s.isa >>= isa_named s

abbrev pub arch_form : Selection → Option ArchForm
arch_form s = selected_arch s.machine s.elements

-- Bits are numbered from the highest where nothing else is said, and accesses are aligned.
abbrev pub lsb0_in : Option ArchForm → Bool
lsb0_in arch = unwrap_or (arch >>= λ form. form.insn_lsb0) false

abbrev pub alignment_named : List ℕ → Alignment
alignment_named word =
    if same_text (codes "unaligned") word then Unaligned else if same_text (codes "forced") word then Forced else Aligned

abbrev pub alignment_written : ArchForm → Option (List ℕ)
alignment_written form = form.default_alignment

abbrev pub alignment_in : Option ArchForm → Alignment
alignment_in arch = elim (arch >>= alignment_written) [ None ↦ Aligned | Some word ↦ alignment_named word ]

-- The order of the bytes of data and of instructions is the cpu's, where they have no own.
abbrev pub endian_named : List ℕ → Endian
endian_named word = if same_text (codes "little") word then Little else Big

abbrev pub endian_in : Option CpuForm → (CpuForm → Option (List ℕ)) → Endian
endian_in None own = Big
endian_in (Some form) own = endian_named (unwrap_or (own form) form.endian)

abbrev pub word_bits_in : Option CpuForm → ℕ
word_bits_in None = 32
word_bits_in (Some form) = size form.word_bitsize

abbrev pub base_bits_in : Option IsaForm → ℕ
base_bits_in None = 8
base_bits_in (Some form) = size form.base_insn_bitsize

abbrev pub framing_of : Option ArchForm → Option CpuForm → Option IsaForm → Framing
framing_of arch cpu isa = record {
  lsb0 = lsb0_in arch;
  alignment = alignment_in arch;
  word_bits = word_bits_in cpu;
  insn_endian = endian_in cpu (λ form. form.insn_endian);
  data_endian = endian_in cpu (λ form. form.data_endian);
  base_bits = base_bits_in isa;
  is_sized = is_some cpu && is_some isa;
}

abbrev pub framing : Selection → Framing
framing s = framing_of (arch_form s) (selected_cpu s) (isa_form s)
