-- A form of a description with what it gives, as definitions see it.
use Rattle.std.specs.Prelude.{ℕ, List}
use Rattle.cg_base.specs.declared.form.Form.{Form}
use Rattle.cg_desc_elements.specs.declared.element.Element.{Element}
use Rattle.cg_model.specs.declared.machine.Machine.{Machine}
use Rattle.cg_desc_choices.specs.declared.written.Written.{Written}
use Rattle.cg_desc_scope.specs.Described.{Described}
pub use Rattle.cg_desc_scope.specs.Seen.{lent, all_lent}
use Rattle.cg_desc_scope.specs.Seen.{seen_described}
use Rattle.cg_desc_fault_report.specs.declared.subject.Subject.{Subject}

abbrev pub described_in : Subject → Described
described_in x = seen_described x.described.now

abbrev pub machine_in : Subject → Machine
machine_in x = x.machine.now

abbrev pub element_in : Subject → Element
element_in x = x.element.now

abbrev pub form_in : Subject → Form
form_in x = x.top.now.form

abbrev pub insns_in : Subject → List Written
insns_in x = all_lent x.insns.now
