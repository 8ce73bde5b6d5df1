-- Hardware that has a rule is a register, where its form has no fault.
use Rattle.std.proofs.Common.{◌≡◌, ◌∙◌, ℕ, Bool, true, false, ◌&&◌, if◌then◌else◌, List, [], ◌∷◌, Option, Some, None, is_some, refl, sym, ap, codes}
use Rattle.std.specs.List.{list_all}
use Rattle.std.specs.Option.{option_map, unwrap_or}
use Rattle.std.proofs.lemmas.Bool.{false≢true}
use Rattle.cg_base.specs.declared.form.Form.{Form}
use Rattle.cg_base.specs.declared.form.Form.TheVariants.{Items}
use Rattle.cg_base.specs.Parts.{◌>>=◌, Headed, headed, headed_in, elements_of}
use Rattle.cg_base.specs.Refusing.{least}
use Rattle.cg_base.specs.Texts.{same_text, passes}
use Rattle.cg_attrs.specs.Clauses.{Clause, Texts, Row, Wanted, row_named, clause_faults, content_at}
use Rattle.cg_attrs.specs.Contents.{misfit}
use Rattle.cg_attrs.specs.Lookups.{optional_form}
use Rattle.cg_desc_laws_forms.proofs.Clauses.{Clean, clean, complete, Stands, StandsWith, content_stands, looked_up, fits, is_kept, keeps, is_apart, wanted_stands_apart}
use Rattle.cg_desc_laws_forms.proofs.Frames.{misfit_none}
use Rattle.cg_desc_laws_forms.proofs.Lists.{append_none}
use Rattle.cg_desc_laws_forms.proofs.Rules.{elements_items}
use Rattle.cg_desc_laws_forms.proofs.Told.{These, told}
use Rattle.cg_desc_laws_forms.proofs.Types.{word_by_word}
use Rattle.cg_hw.specs.Contents.{wrong, left_out}
use Rattle.cg_hw.specs.Hardware.{hardware_in, hardware_of, hardware_faults}
use Rattle.cg_hw.specs.Rules.{get_formals, set_formals, first_list, agree_in, is_rule, inside, expression, wrong_rule}
use Rattle.cg_hw.specs.Tables.{heads, table_of}
use Rattle.cg_hw.specs.Types.{type_words, type_named, cells_by, cells_in, cells_of, cells_at, wrong_type_by, wrong_type, left_out_type_by, left_out_type}
use Rattle.cg_hw.specs.declared.form.HardwareForm.{HardwareForm}
use Rattle.cg_rtl.specs.Shapes.{wrong_in}
use Rattle.cg_desc_data.specs.Hardware.{kind_named, type_of}
use Rattle.cg_model.specs.declared.hardware.HwKind.TheVariants.{Register, Memory, Pc, Immediate, Address}

-- nothing is said
abbrev silent : List (List ℕ) → Bool
silent [] = true
silent (t ∷ ts) = false

is_silent : (ts : List (List ℕ)) → ts ≡ [] → silent ts ≡ true
is_silent ts e = ap silent e

both : (a b c : Bool) → a ≡ true → b ≡ true → c ≡ true → ((a && b) && c) ≡ true
both true true true e f g = refl
both true true false e f g = g
both true false c e f g = absurd (false≢true f)
both false b c e f g = absurd (false≢true e)

first_no : (a b c : Bool) → a ≡ false → ((a && b) && c) ≡ false
first_no true b c e = absurd (false≢true (sym e))
first_no false b c e = refl

second_no : (a b c : Bool) → b ≡ false → ((a && b) && c) ≡ false
second_no true b true e = ap (λ x. x && true) e
second_no true b false e = ap (λ x. x && false) e
second_no false b c e = refl

third_no : (a b c : Bool) → c ≡ false → ((a && b) && c) ≡ false
third_no true true c e = e
third_no true false c e = refl
third_no false b c e = refl

never : {A : Type 0} (test : A → Bool) → ((a : A) → test a ≡ false) → (o : Option A) → passes test o ≡ false
never test h None = refl
never test h (Some a) = h a

-- Only a register agrees with a rule.
pick : (a b c d e f r m p i q z n : Bool) → m ≡ false → p ≡ false → i ≡ false → q ≡ false → z ≡ false → n ≡ false
    → (if a then r else if b then m else if c then p else if d then i else if e then q else if f then z else n) ≡ true → a ≡ true
pick true b c d e f r m p i q z n hm hp hi hq hz hn is = refl
pick false true c d e f r m p i q z n hm hp hi hq hz hn is = absurd (false≢true (sym hm ∙ is))
pick false false true d e f r m p i q z n hm hp hi hq hz hn is = absurd (false≢true (sym hp ∙ is))
pick false false false true e f r m p i q z n hm hp hi hq hz hn is = absurd (false≢true (sym hi ∙ is))
pick false false false false true f r m p i q z n hm hp hi hq hz hn is = absurd (false≢true (sym hq ∙ is))
pick false false false false false true r m p i q z n hm hp hi hq hz hn is = absurd (false≢true (sym hz ∙ is))
pick false false false false false false r m p i q z n hm hp hi hq hz hn is = absurd (false≢true (sym hn ∙ is))

-- other hardware, where what stands behind its word is of its kind or not
other_no : {C F : Type 0} (agrees : Option C → F → Bool) (other : C) → ((f : F) → agrees (Some other) f ≡ false) → (z : Bool) (o : Option F) (name : List ℕ) (rest : Bool)
    → ((passes (agrees (if z then Some other else None)) o && silent (misfit (is_some (if z then Some other else None)) name)) && rest) ≡ false
other_no agrees other h true o name rest = first_no (passes (agrees (Some other)) o) _ rest (never (agrees (Some other)) h o)
other_no agrees other h false o name rest = second_no (passes (agrees None) o) false rest refl

register_kind : (word : List ℕ) → same_text (codes "register") word ≡ true → kind_named word ≡ Register
register_kind word is =
    ap (λ b. if b then Register else if same_text (codes "memory") word then Memory else if same_text (codes "pc") word then Pc else if same_text (codes "immediate") word then Immediate else Address) is

module _ (name : List ℕ) (x : Headed) where
  get_register : (content : List Form) → passes (agree_in (type_named x.0 >>= (λ w. cells_by w x.1))) (first_list content >>= get_formals) ≡ true → wrong_type_by name x.1 (type_named x.0) ≡ [] → left_out_type_by x.0 (type_named x.0) ≡ [] → same_text (codes "register") x.0 ≡ true
  get_register content agrees typed known =
      pick (same_text (codes "register") x.0) (same_text (codes "memory") x.0) (same_text (codes "pc") x.0) (same_text (codes "immediate") x.0) (same_text (codes "address") x.0) (same_text (codes "iaddress") x.0) _ _ _ _ _ _ _
      (first_no _ _ _ (never _ (λ a. refl) (first_list content >>= get_formals)))
      (other_no agree_in _ (λ a. refl) _ (first_list content >>= get_formals) name _)
      (other_no agree_in _ (λ a. refl) _ (first_list content >>= get_formals) name _)
      (other_no agree_in _ (λ a. refl) _ (first_list content >>= get_formals) name _)
      (other_no agree_in _ (λ a. refl) _ (first_list content >>= get_formals) name _)
      (third_no (passes (agree_in (None >>= (λ w. cells_by w x.1))) (first_list content >>= get_formals)) (silent (wrong_type_by name x.1 None)) false refl)
      (sym (word_by_word (λ o. (passes (agree_in (o >>= (λ w. cells_by w x.1))) (first_list content >>= get_formals) && silent (wrong_type_by name x.1 o)) && silent (left_out_type_by x.0 o)) type_words x.0)
      ∙ both _ _ _ agrees (is_silent _ typed) (is_silent _ known))

  set_register : (content : List Form) → passes (agree_in (type_named x.0 >>= (λ w. cells_by w x.1))) (first_list content >>= set_formals) ≡ true → wrong_type_by name x.1 (type_named x.0) ≡ [] → left_out_type_by x.0 (type_named x.0) ≡ [] → same_text (codes "register") x.0 ≡ true
  set_register content agrees typed known =
      pick (same_text (codes "register") x.0) (same_text (codes "memory") x.0) (same_text (codes "pc") x.0) (same_text (codes "immediate") x.0) (same_text (codes "address") x.0) (same_text (codes "iaddress") x.0) _ _ _ _ _ _ _
      (first_no _ _ _ (never _ (λ a. refl) (first_list content >>= set_formals)))
      (other_no agree_in _ (λ a. refl) _ (first_list content >>= set_formals) name _)
      (other_no agree_in _ (λ a. refl) _ (first_list content >>= set_formals) name _)
      (other_no agree_in _ (λ a. refl) _ (first_list content >>= set_formals) name _)
      (other_no agree_in _ (λ a. refl) _ (first_list content >>= set_formals) name _)
      (third_no (passes (agree_in (None >>= (λ w. cells_by w x.1))) (first_list content >>= set_formals)) (silent (wrong_type_by name x.1 None)) false refl)
      (sym (word_by_word (λ o. (passes (agree_in (o >>= (λ w. cells_by w x.1))) (first_list content >>= set_formals) && silent (wrong_type_by name x.1 o)) && silent (left_out_type_by x.0 o)) type_words x.0)
      ∙ both _ _ _ agrees (is_silent _ typed) (is_silent _ known))

-- The form of hardware whose rules stand on a register.
pub record RulesOnRegister (form : HardwareForm) : Type 0 where
  pub get : is_some form.get ≡ true → kind_named (type_of form).0 ≡ Register
  pub set : is_some form.set ≡ true → kind_named (type_of form).0 ≡ Register

module _ {C : Type 0} (wrongs left_outs : Texts C) {rows : List (Row C)} (t : These rows) (elements : List Form) (clear : least (clause_faults wrongs left_outs rows elements) ≡ None) where
  h : Clean wrongs rows elements
  h = clean wrongs left_outs rows elements clear

  -- its type
  record HasWord : Type 0 where
    content : List Form
    is : content_at (codes "type") elements ≡ Some content
    type : Headed
    headed : headed_in content ≡ Some type
    typed : wrong_type_by (codes "type") type.1 (type_named type.0) ≡ []
    known : left_out_type_by type.0 (type_named type.0) ≡ []

  word_in : (content : List Form) → content_at (codes "type") elements ≡ Some content → (o : Option Headed) → headed_in content ≡ o → wrong_type (codes "type") o ≡ [] → left_out_type o ≡ [] → HasWord
  word_in content there None is a b = absurd cc
  word_in content there (Some x) is a b = record { content = content; is = there; type = x; headed = is; typed = a; known = b }

  type_there : {r : Row C} → list_all (is_apart (codes "type")) rows ≡ true → row_named rows (codes "type") ≡ Some r → r.role ≡ Wanted → ((c : Clause) → wrongs r.content c ≡ wrong_type c.name (headed_in c.content)) → ((c : Clause) → left_outs r.content c ≡ left_out_type (headed_in c.content)) → HasWord
  type_there {r} apart row wanted judges leaves =
      let name : List ℕ = codes "type" in
      let x : Stands elements name = wanted_stands_apart wrongs rows elements name r h apart row wanted in
      let c : Clause = record { name = name; content = x.content; elements = elements } in
      let a : wrong_type name (headed_in x.content) ≡ [] = sym (judges c) ∙ fits wrongs rows elements name r x h refl row in
      let b : left_out_type (headed_in x.content) ≡ [] = sym (leaves c) ∙ keeps left_outs rows elements name r x (complete wrongs left_outs rows elements clear) row (ap is_kept wanted) in
      word_in x.content (content_stands elements name x) (headed_in x.content) refl a b

  cells_are : (w : HasWord) → cells_at elements ≡ (type_named w.type.0 >>= (λ k. cells_by k w.type.1))
  unfolding cells_at cells_of cells_in
  cells_are w = ap (λ o. o >>= cells_of) w.is ∙ ap (λ o. o >>= cells_in) w.headed

  register_is : (w : HasWord) → same_text (codes "register") w.type.0 ≡ true → kind_named (type_of (hardware_in elements)).0 ≡ Register
  unfolding headed
  register_is w is =
      let type : headed (hardware_in elements).kind ≡ Some w.type = ap (λ c. elements_of (Items (unwrap_or c [])) >>= headed_in) w.is ∙ ap (λ o. o >>= headed_in) (elements_items w.content) ∙ w.headed in
      ap (λ (o : Option Headed). kind_named (unwrap_or o ([], [])).0) type ∙ register_kind w.type.0 is

  get_there : {r : Row C} → (w : HasWord) → row_named rows (codes "get") ≡ Some r → ((c : Clause) → wrongs r.content c ≡ wrong_rule get_formals c) → is_some (optional_form (codes "get") elements) ≡ true → same_text (codes "register") w.type.0 ≡ true
  get_there {r} w row judges some = by (content_at (codes "get") elements) refl (ap is_some refl ∙ some) where
    by : (o : Option (List Form)) → content_at (codes "get") elements ≡ o → is_some (option_map Items (content_at (codes "get") elements)) ≡ true → same_text (codes "register") w.type.0 ≡ true
    by None is e = absurd (false≢true (sym (ap (λ o. is_some (option_map Items o)) is) ∙ e))
    by (Some c) is e =
        let x : StandsWith elements (codes "get") c = looked_up elements (codes "get") c is in
        let clause : Clause = record { name = codes "get"; content = x.stands.content; elements = elements } in
        let none : wrong_rule get_formals clause ≡ [] = sym (judges clause) ∙ fits wrongs rows elements (codes "get") r x.stands h refl row in
        let good : is_rule get_formals clause ≡ true = misfit_none (is_rule get_formals clause) (codes "get") (append_none (misfit (is_rule get_formals clause) (codes "get")) (inside wrong_in (expression x.stands.content)) none).0 in
        get_register (codes "type") w.type x.stands.content (sym (ap (λ cells. passes (agree_in cells) (first_list x.stands.content >>= get_formals)) (cells_are w)) ∙ good) w.typed w.known

  set_there : {r : Row C} → (w : HasWord) → row_named rows (codes "set") ≡ Some r → ((c : Clause) → wrongs r.content c ≡ wrong_rule set_formals c) → is_some (optional_form (codes "set") elements) ≡ true → same_text (codes "register") w.type.0 ≡ true
  set_there {r} w row judges some = by (content_at (codes "set") elements) refl (ap is_some refl ∙ some) where
    by : (o : Option (List Form)) → content_at (codes "set") elements ≡ o → is_some (option_map Items (content_at (codes "set") elements)) ≡ true → same_text (codes "register") w.type.0 ≡ true
    by None is e = absurd (false≢true (sym (ap (λ o. is_some (option_map Items o)) is) ∙ e))
    by (Some c) is e =
        let x : StandsWith elements (codes "set") c = looked_up elements (codes "set") c is in
        let clause : Clause = record { name = codes "set"; content = x.stands.content; elements = elements } in
        let none : wrong_rule set_formals clause ≡ [] = sym (judges clause) ∙ fits wrongs rows elements (codes "set") r x.stands h refl row in
        let good : is_rule set_formals clause ≡ true = misfit_none (is_rule set_formals clause) (codes "set") (append_none (misfit (is_rule set_formals clause) (codes "set")) (inside wrong_in (expression x.stands.content)) none).0 in
        set_register (codes "type") w.type x.stands.content (sym (ap (λ cells. passes (agree_in cells) (first_list x.stands.content >>= set_formals)) (cells_are w)) ∙ good) w.typed w.known

  -- in these rows
  rules_on : {a b c : Row C} → list_all (is_apart (codes "type")) rows ≡ true → row_named rows (codes "type") ≡ Some a → a.role ≡ Wanted → ((x : Clause) → wrongs a.content x ≡ wrong_type x.name (headed_in x.content)) → ((x : Clause) → left_outs a.content x ≡ left_out_type (headed_in x.content))
      → row_named rows (codes "get") ≡ Some b → ((x : Clause) → wrongs b.content x ≡ wrong_rule get_formals x) → row_named rows (codes "set") ≡ Some c → ((x : Clause) → wrongs c.content x ≡ wrong_rule set_formals x) → RulesOnRegister (hardware_in elements)
  rules_on apart row wanted judges leaves get gets set sets =
      let w : HasWord = type_there apart row wanted judges leaves in
      record { get = λ some. register_is w (get_there w get gets some); set = λ some. register_is w (set_there w set sets some) }

pub registers_law : (f : Form) (x : HardwareForm) → least (hardware_faults f) ≡ None → hardware_of f ≡ Some x → RulesOnRegister x
registers_law f x e is = told heads wrong left_out table_of (λ kind elements. hardware_in elements) RulesOnRegister (
  (λ t elements clear. rules_on wrong left_out t elements clear refl refl refl (λ c. refl) (λ c. refl) refl (λ c. refl) refl (λ c. refl)),
  tt,
) f x e is
