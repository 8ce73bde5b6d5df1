-- The equations of replacing, which recurses on how deep lists may stand.
use Rattle.std.proofs.Common.{◌≡◌, ◌≢◌, ℕ, zero, suc, ◌-◌, Bool, true, false, ℤ, List, [], ◌∷◌, Option, Some, None, ap, ◌∙◌, refl, arith}
use Rattle.std.specs.List.{cons_option}
use Rattle.std.proofs.lemmas.Grind.{common_steps}
use Rattle.cg_base.specs.declared.form.Form.{Form}
use Rattle.cg_base.specs.Texts.{is_among, same_text}
use Rattle.cg_pmacro_builtin.specs.declared.body.Body.{Body, out-Body}
use Rattle.cg_pmacro_builtin.specs.declared.body.Body.TheViews.{outs-Quoted, outs-Number, outs-Symbol, outs-Str, outs-Flag, outs-Items}
use Rattle.cg_pmacro_builtin.specs.declared.body.Body.TheVariants.{Quoted, Number, Symbol, Str, Flag, Items}
use Rattle.cg_pmacro_builtin.specs.declared.body.Binding.{Binding}
use Rattle.cg_pmacro_builtin.specs.Hiding.{hiding}
use Rattle.cg_pmacro_builtin.specs.Shapes.{head_name}
use Rattle.cg_pmacro_builtin.specs.Replacing.{Table, without, replaced_to, replaced_in, looked_up, elements_replaced}

-- what becomes of a list, so many lists inwards
abbrev list_to : ℕ → Table → List Body → Body
list_to zero t bs = Items bs
list_to (suc k) t bs = Items (elements_replaced (replaced_to k) t (head_name bs) bs)

replaced_out : (k : ℕ) (t : Table) (b : Body) → replaced_to k t b ≡ replaced_in t (list_to k t) b (out-Body b)
replaced_out zero t b = refl
replaced_out (suc k) t b = refl

pub replaced_symbol : (k : ℕ) (t : Table) (s : List ℕ) → replaced_to k t (Symbol s) ≡ looked_up t s
replaced_symbol k t s = replaced_out k t (Symbol s) ∙ ap (replaced_in t (list_to k t) (Symbol s)) (outs-Symbol s)

pub replaced_quoted : (k : ℕ) (t : Table) (f : Form) → replaced_to k t (Quoted f) ≡ Quoted f
replaced_quoted k t f = replaced_out k t (Quoted f) ∙ ap (replaced_in t (list_to k t) (Quoted f)) (outs-Quoted f)

pub replaced_number : (k : ℕ) (t : Table) (n : ℤ) → replaced_to k t (Number n) ≡ Number n
replaced_number k t n = replaced_out k t (Number n) ∙ ap (replaced_in t (list_to k t) (Number n)) (outs-Number n)

pub replaced_string : (k : ℕ) (t : Table) (s : List ℕ) → replaced_to k t (Str s) ≡ Str s
replaced_string k t s = replaced_out k t (Str s) ∙ ap (replaced_in t (list_to k t) (Str s)) (outs-Str s)

pub replaced_flag : (k : ℕ) (t : Table) (b : Bool) → replaced_to k t (Flag b) ≡ Flag b
replaced_flag k t b = replaced_out k t (Flag b) ∙ ap (replaced_in t (list_to k t) (Flag b)) (outs-Flag b)

replaced_list : (k : ℕ) (t : Table) (bs : List Body) → replaced_to k t (Items bs) ≡ list_to k t bs
replaced_list k t bs = replaced_out k t (Items bs) ∙ ap (replaced_in t (list_to k t) (Items bs)) (outs-Items bs)

pub replaced_flat : (k : ℕ) (t : Table) (bs : List Body) → k ≡ 0 → replaced_to k t (Items bs) ≡ Items bs
replaced_flat zero t bs h = replaced_list zero t bs
replaced_flat (suc k) t bs h = absurd (omega arith)

pub replaced_items : (k : ℕ) (t : Table) (bs : List Body) → k ≢ 0 → replaced_to k t (Items bs) ≡ Items (elements_replaced (replaced_to (k - 1)) t (head_name bs) bs)
replaced_items zero t bs h = absurd (h refl)
replaced_items (suc k) t bs h = let e : suc k - 1 ≡ k = omega arith in rw e (replaced_list (suc k) t bs)

pub ruleset replacing_rules = (common_steps, replaced_symbol, replaced_quoted, replaced_number, replaced_string, replaced_flag, replaced_flat, replaced_items)

-- Names that are hidden one after another are hidden together.
hidden_first : (b : Binding) (table : Table) (name : List ℕ) (names : List (List ℕ)) (here there : Bool) → same_text name b.name ≡ here → is_among names b.name ≡ there → without (without table (name ∷ [])) names ≡ without table (name ∷ names) → without (without (b ∷ table) (name ∷ [])) names ≡ without (b ∷ table) (name ∷ names)
hidden_first b table name names true there h e rest = rw h rest
hidden_first b table name names false true h e rest = rw h (rw e rest)
hidden_first b table name names false false h e rest = rw h (rw e (ap (λ t. b ∷ t) rest))

hidden_twice : (table : Table) (name : List ℕ) (names : List (List ℕ)) → without (without table (name ∷ [])) names ≡ without table (name ∷ names)
hidden_twice [] name names = refl
hidden_twice (b ∷ table) name names = hidden_first b table name names (same_text name b.name) (is_among names b.name) refl refl (hidden_twice table name names)

pub hidden_next : (table : Table) (name : Option (List ℕ)) (names : List (List ℕ)) → without (hiding table name) names ≡ without table (cons_option name names)
hidden_next table None names = refl
hidden_next table (Some name) names = hidden_twice table name names

pub none_hidden : (table : Table) → without table [] ≡ table
none_hidden [] = refl
none_hidden (b ∷ table) = ap (λ t. b ∷ t) (none_hidden table)

pub hidden_one : (table : Table) (name : Option (List ℕ)) → without table (cons_option name []) ≡ hiding table name
hidden_one table None = none_hidden table
hidden_one table (Some name) = refl

pub ruleset hiding_rules = (common_steps, hidden_next, none_hidden, hidden_one)
