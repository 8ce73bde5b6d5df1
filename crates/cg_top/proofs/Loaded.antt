-- What is loaded, and what is replied to it.
use Rattle.std.proofs.Common.{◌≡◌, ℕ, List, Result, Ok, Err, refl, sym, subst}
use Rattle.cg_base.specs.declared.form.Forms.{Forms}
use Rattle.cg_base.specs.declared.refusal.Refusal.{Refusal}
use Rattle.cg_base.specs.declared.refusal.Stop.{Stop}
use Rattle.cg_base.specs.declared.refusal.Stop.TheVariants.{Refused, NoMemory}
use Rattle.cg_desc.specs.Answering.{as_stop, GivesDescription}
use Rattle.cg_desc.proofs.Answers.{unknown_description}
use Rattle.cg_desc.proofs.OneAnswer.{one_fixed, one_description, some_description}
use Rattle.cg_model.specs.declared.machine.Machine.{Machine}
use Rattle.cg_pmacro.specs.Tops.{expansion}
use Rattle.cg_top.specs.declared.asking.Asked.{Asked}
use Rattle.cg_top.specs.declared.replies.Reply.{Reply}
use Rattle.cg_top.specs.Loading.{LoadsFrom, Loads}
use Rattle.cg_top.specs.Replies.{performed, refused, IsDescribed}

pub expanded_loads : (forms expanded : Forms) (name : List ℕ) (answer : Result Machine Stop) → expansion forms ≡ Ok expanded → GivesDescription name expanded.tops answer → Loads forms name answer
expanded_loads forms expanded name answer is gives = subst (λ o. LoadsFrom name o answer) (sym is) gives

pub refused_loads : (forms : Forms) (name : List ℕ) (refusal r : Refusal) → expansion forms ≡ Err refusal → r ≡ refusal → Loads forms name (Err (Refused r))
refused_loads forms name refusal r is same = subst (λ o. LoadsFrom name o (Err (Refused r))) (sym is) same

-- want of memory answers any forms
pub unknown_loads : (forms : Forms) (name : List ℕ) → Loads forms name (Err NoMemory)
unknown_loads forms name = at (expansion forms) where
  at : (o : Result Forms Refusal) → LoadsFrom name o (Err NoMemory)
  at (Ok expanded) = unknown_description name expanded.tops
  at (Err refusal) = tt

pub ruleset loading = (expanded_loads, refused_loads, unknown_loads)

pub replies_machine : (asked : Asked) (forms : Forms) (names : List (List ℕ)) (own : List ℕ) (m : Machine) (r : Reply) → Loads forms asked.mach (Ok m) → r ≡ performed asked.command m own → IsDescribed asked forms names own r
replies_machine asked forms names own m r loads is = record { loaded = Ok m; loads = loads; replied = is }

pub replies_refusal : (asked : Asked) (forms : Forms) (names : List (List ℕ)) (own : List ℕ) (refusal : Refusal) (r : Reply) → Loads forms asked.mach (Err (Refused refusal)) → r ≡ refused asked.desc names refusal → IsDescribed asked forms names own r
replies_refusal asked forms names own refusal r loads is = record { loaded = Err refusal; loads = loads; replied = is }

pub ruleset replying = (replies_machine, replies_refusal)

-- what is loaded once
once_from : (name : List ℕ) (o : Result Forms Refusal) (x y : Result Machine Refusal) → LoadsFrom name o (as_stop x) → LoadsFrom name o (as_stop y) → x ≡ y
once_from name (Ok expanded) x y p q = one_description name expanded.tops x y p q
once_from name (Err refusal) x y p q = one_fixed refusal x y p q

pub one_loaded : (forms : Forms) (name : List ℕ) (x y : Result Machine Refusal) → Loads forms name (as_stop x) → Loads forms name (as_stop y) → x ≡ y
one_loaded forms name x y p q = once_from name (expansion forms) x y p q

-- and somehow
some_from : (name : List ℕ) (o : Result Forms Refusal) → (x : Result Machine Refusal) × LoadsFrom name o (as_stop x)
some_from name (Ok expanded) = some_description name expanded.tops
some_from name (Err refusal) = (Err refusal, refl)

pub some_loaded : (forms : Forms) (name : List ℕ) → (x : Result Machine Refusal) × Loads forms name (as_stop x)
some_loaded forms name = some_from name (expansion forms)
