-- The laws of the definitions.
use Rattle.std.proofs.Common.{◌≡◌, ℕ, suc, ◌+◌, ◌-◌, nat_lt, ◌||◌, is_some, Bool, true, false, ℤ, List, [], ◌∷◌, map, drop, codes, Option, Some, None, Ok, Err, refl, sym, ap, ◌∙◌, if◌then◌else◌, arith}
use Rattle.std.proofs.lemmas.Bool.Decides.{nat_tests}
use Rattle.cg_base.specs.declared.form.Form.{Form}
use Rattle.cg_base.specs.declared.form.Form.TheOpen as layer
use Rattle.cg_base.specs.declared.form.Form.TheViews as views
use Rattle.cg_base.specs.declared.form.Form.TheFolds.{fold-roll-Form}
use Rattle.cg_base.specs.declared.form.Form.TheVariants as form
use Rattle.cg_base.specs.Texts.{is_named, same_text}
use Rattle.cg_pmacro_builtin.specs.declared.body.Body.{Body}
use Rattle.cg_pmacro_builtin.specs.declared.body.Body.TheViews.{outs-Number, outs-Symbol, outs-Str, outs-Flag, outs-Items}
use Rattle.cg_pmacro_builtin.specs.declared.body.Body.TheVariants.{Number, Symbol, Str, Flag, Items}
use Rattle.cg_pmacro_builtin.specs.declared.body.Macro.{Macro}
use Rattle.cg_pmacro_builtin.specs.declared.built_in.BuiltIn.{BuiltIn}
use Rattle.cg_pmacro_builtin.specs.declared.built_in.BuiltIn.TheVariants as own
use Rattle.cg_pmacro_builtin.proofs.Names.{same_text_sym}
use Rattle.cg_pmacro_expand.proofs.Rules.{at_leaf}
use Rattle.cg_pmacro_expand.proofs.ExpandRules.{expanded_number, expanded_symbol, expanded_string, expanded_flag}
use Rattle.cg_pmacro_builtin.specs.Outcome.{Answer, onward, choose, each}
use Rattle.cg_pmacro_builtin.specs.Sizes.{nodes, lists}
use Rattle.cg_base.specs.Parts.{◌>>=◌}
use Rattle.cg_pmacro_builtin.specs.Shapes.{plain, plain_step, called, head_name, elements, pmacro_form, pmacro_head, macro_named, begins_with_dot}
use Rattle.cg_pmacro_builtin.specs.BuiltIns.{name_of, first_named, built_in, all_built_ins}
use Rattle.cg_pmacro_expand.specs.Expansion.{Expander, listed, macro_call, other_list, named_kind, list_kind, layer_kind, kind_of, comes_to, charge, call_written, with_arguments, expanded}
use Rattle.cg_pmacro.specs.Splitting.{first_name}
use Rattle.cg_pmacro.specs.Laws.{CallLeaves, AtRest, heads_call, none, number, symbol, string, flag, list}

-- the charge, by whether too few units are left and whether the result is too deep
abbrev charged_by : List ℕ → Form → ℕ → Bool → Bool → Answer (Form × ℕ)
charged_by name g before poor deep = if poor then Err (203, codes "4000000") else if deep then Err (204, name) else Ok (g, before - (1 + nodes g))

abbrev form_of : Answer (Form × ℕ) → Form → Form
form_of (Ok r) other = r.0
form_of (Err x) other = other

abbrev units_of : Answer (Form × ℕ) → ℕ
units_of (Ok r) = r.1
units_of (Err x) = 0

charge_takes : (name : List ℕ) (g f : Form) (before after : ℕ) → charge name g before ≡ Ok (f, after) → (g ≡ f) × (before ≡ after + (1 + nodes f))
charge_takes name g f before after h = taken (nat_lt before (1 + nodes g)) (nat_lt 200 (lists g)) refl h
  where
    taken : (poor deep : Bool) → nat_lt before (1 + nodes g) ≡ poor → charged_by name g before poor deep ≡ Ok (f, after) → (g ≡ f) × (before ≡ after + (1 + nodes f))
    taken true deep e h = absurd (cc)
    taken false true e h = absurd (cc)
    taken false false e h =
        let same : g ≡ f = ap (λ out. form_of out g) h in
        let rest : before - (1 + nodes g) ≡ after = ap units_of h in
        let count : nodes g ≡ nodes f = ap nodes same in
        (same, grind (arith, nat_tests))

left_by : (within : Expander) (name : List ℕ) (formals : List (List ℕ)) (b : Body) (args : List Body) (left after : ℕ) (f : Form) (values : Answer (List Form × ℕ)) → each (within name false) args left ≡ values → onward (onward values (λ r. call_written within name formals b r.0 r.1)) (λ r. charge name r.0 r.1) ≡ Ok (f, after) → CallLeaves within name formals b args left f after
left_by within name formals b args left after f (Err x) e h = absurd (cc)
left_by within name formals b args left after f (Ok r) e h = of_body (call_written within name formals b r.0 r.1) refl h
  where
    of_body : (out : Answer (Form × ℕ)) → call_written within name formals b r.0 r.1 ≡ out → onward out (λ q. charge name q.0 q.1) ≡ Ok (f, after) → CallLeaves within name formals b args left f after
    of_body (Err x) d h = absurd (cc)
    of_body (Ok q) d h =
        let taken = charge_takes name q.0 f q.1 after h in
        let pair : Form → ℕ → Answer (Form × ℕ) = λ g n. Ok (g, n) in
        record { values = r.0; between = r.1; arguments = e; body = d ∙ ap (λ g. pair g q.1) taken.0 ∙ ap (pair f) taken.1 }

pub call_law : (macros : List Macro) (k : ℕ) (inner : List ℕ) (in_splice : Bool) (call : Body) (name : List ℕ) (formals : List (List ℕ)) (b : Body) (args : List Body) (left after : ℕ) (f : Form) → kind_of macros call ≡ macro_call name formals b args → expanded macros (suc k) inner in_splice call left ≡ Ok (f, after) → CallLeaves (expanded macros k) name formals b args left f after
unfolding expanded
call_law macros k inner in_splice call name formals b args left after f e h =
    left_by (expanded macros k) name formals b args left after f (each (expanded macros k name false) args left) refl (sym (ap (λ kind. comes_to macros (expanded macros k) inner in_splice kind left) e) ∙ h)

plain_number : (i : ℤ) → plain (form.Number i) ≡ Number i
plain_number i = ap plain (sym (views.rolls-Number i)) ∙ fold-roll-Form Body plain_step (layer.Number i)

plain_symbol : (s : List ℕ) → plain (form.Symbol s) ≡ Symbol s
plain_symbol s = ap plain (sym (views.rolls-Symbol s)) ∙ fold-roll-Form Body plain_step (layer.Symbol s)

plain_string : (s : List ℕ) → plain (form.Str s) ≡ Str s
plain_string s = ap plain (sym (views.rolls-Str s)) ∙ fold-roll-Form Body plain_step (layer.Str s)

plain_flag : (b : Bool) → plain (form.Flag b) ≡ Flag b
plain_flag b = ap plain (sym (views.rolls-Flag b)) ∙ fold-roll-Form Body plain_step (layer.Flag b)

plain_items : (fs : List Form) → plain (form.Items fs) ≡ Items (map plain fs)
plain_items fs = ap plain (sym (views.rolls-Items fs)) ∙ fold-roll-Form Body plain_step (layer.Items fs)

undotted : (s t : List ℕ) → begins_with_dot s ≡ false → same_text s (46 ∷ t) ≡ false
undotted [] t h = refl
undotted (x ∷ s) t h = rw h refl

own_apart : (b : BuiltIn) (s : List ℕ) → begins_with_dot s ≡ false → same_text (name_of b) s ≡ false
own_apart own.Sym s h = same_text_sym (name_of own.Sym) s ∙ undotted s (drop 1 (name_of own.Sym)) h
own_apart b s h = same_text_sym (name_of b) s ∙ undotted s (drop 1 (name_of b)) h

no_own : (all : List BuiltIn) (s : List ℕ) → begins_with_dot s ≡ false → first_named all s ≡ None
no_own [] s h = refl
no_own (b ∷ bs) s h = rw (own_apart b s h) (no_own bs s h)

not_built_in : (s : List ℕ) → begins_with_dot s ≡ false → built_in s ≡ None
unfolding built_in
not_built_in s h = no_own all_built_ins s h

-- what can be seen of the head of forms at rest
abbrev Heads : List Form → Type 0
Heads gs = (pmacro_head (map plain gs) ≡ None) × (head_name (map plain gs) ≡ first_name gs)

no_elements : (b : Body) → elements b ≡ None → pmacro_form b ≡ None
no_elements b h = ap (λ o. o >>= λ bs. if is_named (codes ".pmacro") (head_name bs) then Some bs else None) h

neither : (a b : Bool) → (a || b) ≡ false → (a ≡ false) × (b ≡ false)
neither true b h = absurd (cc)
neither false true h = absurd (cc)
neither false false h = (refl, refl)

holds_none : {A : Type 0} (o : Option A) → is_some o ≡ false → o ≡ None
holds_none None h = refl
holds_none (Some a) h = absurd (cc)

not_dotted : (macros : List Macro) (s : List ℕ) → heads_call macros s ≡ false → begins_with_dot s ≡ false
not_dotted macros s h = (neither (begins_with_dot s) (is_some (with_arguments (macro_named macros s))) h).0

not_macro : (macros : List Macro) (s : List ℕ) → heads_call macros s ≡ false → with_arguments (macro_named macros s) ≡ None
not_macro macros s h = holds_none (with_arguments (macro_named macros s)) (neither (begins_with_dot s) (is_some (with_arguments (macro_named macros s))) h).1

not_pmacro : (macros : List Macro) (o : Option (List ℕ)) → choose o (heads_call macros) false ≡ false → is_named (codes ".pmacro") o ≡ false
not_pmacro macros None h = refl
not_pmacro macros (Some s) h = undotted s (codes "pmacro") (not_dotted macros s h)

heads : {macros : List Macro} {n : ℕ} {gs : List Form} → AtRest macros n gs → Heads gs
heads none = (refl, refl)
heads (number i rest) = (ap pmacro_form (plain_number i) ∙ no_elements (Number i) (rw (outs-Number i) refl), ap called (plain_number i) ∙ rw (outs-Number i) (rw (views.outs-Number i) refl))
heads (symbol s h rest) = (ap pmacro_form (plain_symbol s) ∙ no_elements (Symbol s) (rw (outs-Symbol s) refl), ap called (plain_symbol s) ∙ rw (outs-Symbol s) (rw (views.outs-Symbol s) refl))
heads (string s rest) = (ap pmacro_form (plain_string s) ∙ no_elements (Str s) (rw (outs-Str s) refl), ap called (plain_string s) ∙ rw (outs-Str s) (rw (views.outs-Str s) refl))
heads (flag b rest) = (ap pmacro_form (plain_flag b) ∙ no_elements (Flag b) (rw (outs-Flag b) refl), ap called (plain_flag b) ∙ rw (outs-Flag b) (rw (views.outs-Flag b) refl))
heads {macros} (list {gs = gs} head inside rest) =
    let inner = heads inside in
    let named : is_named (codes ".pmacro") (head_name (map plain gs)) ≡ false = ap (is_named (codes ".pmacro")) inner.1 ∙ not_pmacro macros (first_name gs) head in
    (ap pmacro_form (plain_items gs) ∙ rw (outs-Items (map plain gs)) (rw named refl), ap called (plain_items gs) ∙ rw (outs-Items (map plain gs)) (rw (views.outs-Items gs) refl))

kind_by : (macros : List Macro) (bs : List Body) (o : Option (List ℕ)) → choose o (heads_call macros) false ≡ false → choose o (λ name. named_kind macros name bs) (other_list None bs) ≡ other_list o bs
kind_by macros bs None h = refl
kind_by macros bs (Some s) h = rw (not_macro macros s h) (rw (not_built_in s (not_dotted macros s h)) refl)

rest_kind : (macros : List Macro) (gs : List Form) → Heads gs → choose (first_name gs) (heads_call macros) false ≡ false → list_kind macros (map plain gs) ≡ other_list (first_name gs) (map plain gs)
unfolding list_kind
rest_kind macros gs h head = rw h.0 (rw h.1 (kind_by macros (map plain gs) (first_name gs) head))

rest_listed : (macros : List Macro) (within : Expander) (inner : List ℕ) (in_splice : Bool) (bs : List Body) (left : ℕ) (o : Option (List ℕ)) → choose o (heads_call macros) false ≡ false → comes_to macros within inner in_splice (other_list o bs) left ≡ listed (each (within inner false) bs) left
rest_listed macros within inner in_splice bs left None head = refl
rest_listed macros within inner in_splice bs left (Some s) head = rw (not_dotted macros s head) refl

one_more : (one : Body → ℕ → Answer (Form × ℕ)) (b : Body) (bs : List Body) (f : Form) (fs : List Form) (left : ℕ) → one b left ≡ Ok (f, left) → each one bs left ≡ Ok (fs, left) → each one (b ∷ bs) left ≡ Ok (f ∷ fs, left)
one_more one b bs f fs left first rest = rw first (rw rest refl)

at_rest : {macros : List Macro} {n : ℕ} {fs : List Form} → AtRest macros n fs → (inner : List ℕ) (in_splice : Bool) (left : ℕ) → each (expanded macros n inner in_splice) (map plain fs) left ≡ Ok (fs, left)
unfolding expanded
at_rest none inner in_splice left = refl
at_rest {macros} {n} (number {fs = fs} i rest) inner in_splice left =
    one_more (expanded macros n inner in_splice) (plain (form.Number i)) (map plain fs) (form.Number i) fs left (ap (λ b. expanded macros n inner in_splice b left) (plain_number i) ∙ expanded_number macros n inner in_splice i left) (at_rest rest inner in_splice left)
at_rest {macros} {n} (symbol {fs = fs} s h rest) inner in_splice left =
    one_more (expanded macros n inner in_splice) (plain (form.Symbol s)) (map plain fs) (form.Symbol s) fs left (ap (λ b. expanded macros n inner in_splice b left) (plain_symbol s) ∙ expanded_symbol macros n inner in_splice s left ∙ rw h (at_leaf macros n [] false (form.Symbol s) left)) (at_rest rest inner in_splice left)
at_rest {macros} {n} (string {fs = fs} s rest) inner in_splice left =
    one_more (expanded macros n inner in_splice) (plain (form.Str s)) (map plain fs) (form.Str s) fs left (ap (λ b. expanded macros n inner in_splice b left) (plain_string s) ∙ expanded_string macros n inner in_splice s left) (at_rest rest inner in_splice left)
at_rest {macros} {n} (flag {fs = fs} b rest) inner in_splice left =
    one_more (expanded macros n inner in_splice) (plain (form.Flag b)) (map plain fs) (form.Flag b) fs left (ap (λ c. expanded macros n inner in_splice c left) (plain_flag b) ∙ expanded_flag macros n inner in_splice b left) (at_rest rest inner in_splice left)
at_rest {macros} (list {n = n} {gs = gs} {fs = fs} head inside rest) inner in_splice left =
    let read = ap (λ b. expanded macros (suc n) inner in_splice b left) (plain_items gs) in
    let kind : kind_of macros (Items (map plain gs)) ≡ other_list (first_name gs) (map plain gs) = ap (layer_kind macros) (outs-Items (map plain gs)) ∙ rest_kind macros gs (heads inside) head in
    let opened = ap (λ k. comes_to macros (expanded macros n) inner in_splice k left) kind in
    let whole = rest_listed macros (expanded macros n) inner in_splice (map plain gs) left (first_name gs) head in
    one_more (expanded macros (suc n) inner in_splice) (plain (form.Items gs)) (map plain fs) (form.Items gs) fs left (read ∙ opened ∙ whole ∙ rw (at_rest inside inner false left) refl) (at_rest rest inner in_splice left)

-- the list of one form, and that form
abbrev alone : Form × ℕ → Answer (List Form × ℕ)
alone r = Ok (r.0 ∷ [], r.1)

abbrev first_or : List Form → Form → Form
first_or [] other = other
first_or (f ∷ fs) other = f

abbrev first_of : Answer (List Form × ℕ) → Form → Form
first_of (Ok r) other = first_or r.0 other
first_of (Err x) other = other

abbrev units_left : Answer (List Form × ℕ) → ℕ
units_left (Ok r) = r.1
units_left (Err x) = 0

taken_alone : (out : Answer (Form × ℕ)) (f : Form) (left : ℕ) → onward out alone ≡ Ok (f ∷ [], left) → out ≡ Ok (f, left)
taken_alone (Err x) f left h = absurd (cc)
taken_alone (Ok r) f left h =
    let pair : Form → ℕ → Answer (Form × ℕ) = λ g n. Ok (g, n) in
    let same : r.0 ≡ f = ap (λ out. first_of out f) h in
    let units : r.1 ≡ left = ap units_left h in
    ap (λ g. pair g r.1) same ∙ ap (pair f) units

pub rest_law : (macros : List Macro) (k : ℕ) (inner : List ℕ) (in_splice : Bool) (f : Form) (left : ℕ) → AtRest macros k (f ∷ []) → expanded macros k inner in_splice (plain f) left ≡ Ok (f, left)
rest_law macros k inner in_splice f left h = taken_alone (expanded macros k inner in_splice (plain f) left) f left (at_rest h inner in_splice left)
