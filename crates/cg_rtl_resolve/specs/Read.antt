-- What the code keeps: tables, and the locals around an expression.
use Rattle.std.specs.Prelude.{ℕ, ◌+◌, List, [], ◌++◌, map, Option, Some, None}
use Rattle.cg_base.specs.declared.form.Form.{Form}
use Rattle.cg_rtl_resolve.specs.Names.{local_name, rtl_to, Lacking, lacks_to}
use Rattle.cg_rtl_resolve.specs.declared.around.Around.{Around}
use Rattle.cg_rtl_resolve.specs.declared.around.Around.TheOpen.{Around-F, Outside, Sequence}
use Rattle.cg_rtl_resolve.specs.declared.around.Around.TheFolds.{fold-Around}
use Rattle.cg_rtl_resolve.specs.declared.build.Walk.{Walk}
use Rattle.cg_model.specs.declared.rtl.Rtl.{Rtl}
use Rattle.cg_rtl_resolve.specs.declared.function.Named as declared
use Rattle.cg_rtl_resolve.specs.declared.function.Function.{Function}
use Rattle.cg_rtl_resolve.specs.declared.words.ModeWord as word
use Rattle.cg_rtl_resolve.specs.declared.words.Wording.{Wording}

abbrev pub seen_named : declared.Named → List ℕ × Function
seen_named f = (f.name.now, f.function)

abbrev pub seen_word : word.ModeWord → List ℕ × Wording
seen_word w = (w.word.now, w.wording)

-- The names of the locals around an expression, from the outermost on.
abbrev pub names_step : Around-F (List (List ℕ)) → List (List ℕ)
names_step Outside = []
names_step (Sequence outer locals) = outer.now ++ map local_name locals.now

abbrev pub names_of : Around → List (List ℕ)
names_of a = fold-Around (List (List ℕ)) names_step a

-- A place behind so many others.
abbrev pub behind : ℕ → Option ℕ → Option ℕ
behind count None = None
behind count (Some n) = Some (count + n)

-- What an expression stands for where the code goes through it.
abbrev pub within : Walk → List (List ℕ) → Form → Rtl
within w l f = rtl_to w.depth w.scope.now l f

abbrev pub names_in : Walk → List (List ℕ)
names_in w = names_of w.around.now

abbrev pub lacks_in : Walk → List (List ℕ) → Form → List Lacking
lacks_in w l f = lacks_to w.depth w.scope.now l f
