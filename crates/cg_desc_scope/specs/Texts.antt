-- The texts of a machine's `error` traps: those of get and set rules and of what instructions do, each once, in the order of the
-- description. No other expression may have one.
use Rattle.std.specs.Prelude.{ℕ, zero, suc, ◌+◌, Bool, ◌||◌, ◌==◌, if◌then◌else◌, List, [], ◌∷◌, ◌++◌, filter, drop, Option, Some, None, codes}
use Rattle.std.specs.List.{flat_map}
use Rattle.std.specs.Option.{unwrap_or}
use Rattle.cg_base.specs.declared.form.Form.{Form}
use Rattle.cg_base.specs.Parts.{◌>>=◌, Headed, headed, string_of, elements_of}
use Rattle.cg_base.specs.Refusing.{first}
use Rattle.cg_base.specs.Texts.{same_text}
use Rattle.cg_attrs.specs.Clauses.{Clause}
use Rattle.cg_rtl.specs.Shapes.{behind_mode, deepest}
use Rattle.cg_desc_elements.specs.declared.element.Element.{Element}
use Rattle.cg_desc_elements.specs.declared.kind.Kind.{Kind}
use Rattle.cg_desc_elements.specs.declared.kind.Kind.TheVariants as kind
use Rattle.cg_desc_elements.specs.Elements.{kind_of}
use Rattle.cg_desc_references.specs.Clauses.{clauses_of}
use Rattle.cg_desc_choices.specs.declared.written.Written.{Written}
use Rattle.cg_desc_insns.specs.Choices.{distinct}
use Rattle.cg_desc_data.specs.Selecting.{Selection, takes_part_in}

-- The text of `(error "text")`.
abbrev pub error_text : Headed → Option (List ℕ)
error_text x = if same_text (codes "error") x.0 then first (behind_mode x.1) >>= string_of else None

abbrev pub text_of_error : Form → Option (List ℕ)
text_of_error f = headed f >>= error_text

-- Those in an expression, so many lists inwards.
abbrev pub texts_by : (Form → List (List ℕ)) → List Form → Option (List ℕ) → List (List ℕ)
texts_by within fs None = flat_map within fs
texts_by within fs (Some text) = text ∷ []

abbrev pub texts_to : ℕ → Form → List (List ℕ)
texts_to zero f = []
texts_to (suc depth) f = texts_by (texts_to depth) (unwrap_or (elements_of f) []) (text_of_error f)

-- Those in an expression, from left to right.
unfoldable pub texts_in : Form → List (List ℕ)
texts_in f = texts_to deepest f

-- Those of a rule, which stands behind its formals.
abbrev pub is_hardware_rule : List ℕ → Bool
is_hardware_rule name = same_text (codes "get") name || same_text (codes "set") name

abbrev pub texts_of_clause : Clause → List (List ℕ)
texts_of_clause c = if is_hardware_rule c.name then flat_map texts_in (drop 1 c.content) else []

abbrev pub texts_of_insn : Written → List (List ℕ)
texts_of_insn w = texts_in w.semantics

-- Those of the form that an element of this kind gives, with the instructions that it becomes.
abbrev pub texts_by_kind : Kind → Form → List Written → List (List ℕ)
texts_by_kind kind.Hardware f ws = flat_map texts_of_clause (clauses_of kind.Hardware f)
texts_by_kind kind.Insn f ws = flat_map texts_of_insn ws
texts_by_kind _ f ws = []

-- The instructions of the form of this number.
abbrev pub is_of_form : ℕ → Written → Bool
is_of_form form w = w.form == form

abbrev pub of_form : ℕ → List Written → List Written
of_form form ws = filter (is_of_form form) ws

-- The instructions of each form, by its number.
abbrev pub Insns : Type 0
Insns = ℕ → List Written

abbrev pub by_form : List Written → Insns
by_form ws = λ form. of_form form ws

-- Those of a form that gives this element and becomes these instructions, where it takes part.
unfoldable pub texts_with : Selection → Element → Form → List Written → List (List ℕ)
texts_with s e f ws = if takes_part_in s e then texts_by_kind (kind_of e) f ws else []

-- Those of these forms, numbered from `form` on.
abbrev pub texts_from : Selection → Insns → ℕ → List Element → List Form → List (List ℕ)
texts_from s insns form (e ∷ es) (f ∷ fs) = texts_with s e f (insns form) ++ texts_from s insns (form + 1) es fs
texts_from s insns form _ _ = []

abbrev pub all_texts : Selection → List Form → List Written → List (List ℕ)
all_texts s fs ws = distinct (texts_from s (by_form ws) 1 s.elements fs)
