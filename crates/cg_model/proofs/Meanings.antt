-- Laws of meanings: an equation at each expression, and that a meaning is judged as its expression is.
use Rattle.std.proofs.Common.{◌≡◌, Bool, ◌∙◌, sym, refl, ap, subst, List, [], ◌∷◌, map, Option, ℤ}
use Rattle.cg_base.specs.declared.Mode.{Mode}
use Rattle.cg_model.specs.Checked.{Checked, Locals, checked, checked_step, verdict_of}
use Rattle.cg_model.specs.Values.{Meaning, Way, Steps, meaning, meaning_step, at_once}
use Rattle.cg_model.specs.Pure.{Around, pure_gives, pure_steps, pure_meaning, is_pure, pure_step}
use Rattle.cg_model.specs.declared.machine.Machine.{Machine}
use Rattle.cg_model.specs.declared.rtl.Op.{Op}
use Rattle.cg_model.specs.declared.rtl.Rtl.{Rtl, out-Rtl, roll-Rtl, out-roll-Rtl}
use Rattle.cg_model.specs.declared.rtl.Rtl.TheOpen.{Rtl-F}
use Rattle.cg_model.specs.declared.rtl.Rtl.TheFolds.{fold_out-Rtl, fold-roll-Rtl, ind-Rtl, map-Rtl}

pub checked_roll : (m : Machine) (d : Rtl-F Rtl) → checked m (roll-Rtl d) ≡ checked_step m (map-Rtl Rtl Checked (checked m) d)
unfolding checked
checked_roll m d = fold-roll-Rtl Checked (checked_step m) d

pub meaning_roll : {V : Type 0} (m : Machine) (w : Way V) (s : Steps V) (d : Rtl-F Rtl) → meaning m w s (roll-Rtl d) ≡ meaning_step m w s (map-Rtl Rtl (Meaning V) (meaning m w s) d)
unfolding meaning
meaning_roll {V} m w s d = fold-roll-Rtl (Meaning V) (meaning_step m w s) d

checked_all : {V S : Type 0} (m : Machine) (w : Way V) (s : Steps V) (f : S → Rtl) (h : (x : S) → (meaning m w s (f x)).checked ≡ checked m (f x)) (ys : List S) → map (λ x. x.checked) (map (meaning m w s) (map f ys)) ≡ map (checked m) (map f ys)
checked_all m w s f h [] = refl
checked_all m w s f h (y ∷ ys) = rw (h y) (ap (λ xs. checked m (f y) ∷ xs) (checked_all m w s f h ys))

-- A meaning is judged as its expression is, whichever way values are had.
pub meaning_checked : {V : Type 0} (m : Machine) (w : Way V) (s : Steps V) (r : Rtl) → (meaning m w s r).checked ≡ checked m r
meaning_checked {V} m w s r =
    ind-Rtl (λ x. (meaning m w s x).checked ≡ checked m x)
    (λ x y e. subst (λ z. (meaning m w s (roll-Rtl z)).checked ≡ checked m (roll-Rtl z)) e
    (ap (λ c. c.checked) (meaning_roll m w s (map-Rtl _ _ (λ q. q.0) y))
    ∙ ap (λ xs. checked_step m (record { op = y.op; mode = y.mode; number = y.number; items = xs })) (checked_all m w s (λ q. q.0) (λ q. q.1) y.items)
    ∙ sym (checked_roll m (map-Rtl _ _ (λ q. q.0) y))))
    r

-- The same at an expression that is written out.
pub checked_at : (m : Machine) (o : Op) (mode : Option Mode) (n : ℤ) (items : List Rtl) → checked m (roll-Rtl (record { op = o; mode = mode; number = n; items = items })) ≡ checked_step m (record { op = o; mode = mode; number = n; items = map (checked m) items })
checked_at m o mode n items = checked_roll m (record { op = o; mode = mode; number = n; items = items })

pub meaning_at : {V : Type 0} (m : Machine) (w : Way V) (s : Steps V) (o : Op) (mode : Option Mode) (n : ℤ) (items : List Rtl) → meaning m w s (roll-Rtl (record { op = o; mode = mode; number = n; items = items })) ≡ meaning_step m w s (record { op = o; mode = mode; number = n; items = map (meaning m w s) items })
meaning_at m w s o mode n items = meaning_roll m w s (record { op = o; mode = mode; number = n; items = items })

pub out_at : (o : Op) (mode : Option Mode) (n : ℤ) (items : List Rtl) → out-Rtl (roll-Rtl (record { op = o; mode = mode; number = n; items = items })) ≡ record { op = o; mode = mode; number = n; items = items }
out_at o mode n items = out-roll-Rtl (record { op = o; mode = mode; number = n; items = items })

pub verdict_at : (m : Machine) (o : Op) (mode : Option Mode) (n : ℤ) (items : List Rtl) (l : Locals) (want : Option Mode) → (checked m (roll-Rtl (record { op = o; mode = mode; number = n; items = items }))).verdict l want ≡ verdict_of m o mode n (map (checked m) items) l want
verdict_at m o mode n items l want = ap (λ c. c.verdict l want) (checked_at m o mode n items)

pub said_at : (m : Machine) (o : Op) (mode : Option Mode) (n : ℤ) (items : List Rtl) → (checked m (roll-Rtl (record { op = o; mode = mode; number = n; items = items }))).said ≡ record { op = o; mode = mode; number = n; items = map (λ x. roll-Rtl x.said) (map (checked m) items) }
said_at m o mode n items = ap (λ c. c.said) (checked_at m o mode n items)

said_roll : (m : Machine) (d : Rtl-F Rtl) → (checked m (roll-Rtl d)).said ≡ record d { items = map (λ x. roll-Rtl x.said) (map (checked m) d.items) }
unfolding checked
said_roll m d = ap (λ c. c.said) (fold-roll-Rtl Checked (checked_step m) d)

said_all : {S : Type 0} (m : Machine) (f : S → Rtl) (h : (s : S) → roll-Rtl (checked m (f s)).said ≡ f s) (ys : List S) → map (λ x. roll-Rtl x.said) (map (checked m) (map f ys)) ≡ map f ys
said_all m f h [] = refl
said_all m f h (y ∷ ys) = rw (h y) (ap (λ xs. f y ∷ xs) (said_all m f h ys))

pub rolled_is : (m : Machine) (r : Rtl) → roll-Rtl (checked m r).said ≡ r
rolled_is m r =
    ind-Rtl (λ x. roll-Rtl (checked m x).said ≡ x)
    (λ x y e. subst (λ z. roll-Rtl (checked m (roll-Rtl z)).said ≡ roll-Rtl z) e
    (ap roll-Rtl (said_roll m (map-Rtl _ _ (λ s. s.0) y))
    ∙ ap (λ xs. roll-Rtl (record { op = y.op; mode = y.mode; number = y.number; items = xs })) (said_all m (λ s. s.0) (λ s. s.1) y.items)))
    r

-- What is judged is the expression itself.
pub said_is : (m : Machine) (r : Rtl) → (checked m r).said ≡ out-Rtl r
said_is m r = sym (out-roll-Rtl (checked m r).said) ∙ ap out-Rtl (rolled_is m r)

pub gives_out : {V : Type 0} (m : Machine) (w : Way V) (s : Steps V) (r : Rtl) (l : Locals) (want : Option Mode) → (meaning m w s r).gives l want ≡ s.gives (out-Rtl r).op (out-Rtl r).mode (out-Rtl r).number (map (meaning m w s) (out-Rtl r).items) l want
unfolding meaning
gives_out {V} m w s r l want = ap (λ c. c.gives l want) (fold_out-Rtl (Meaning V) (meaning_step m w s) r)

pub pure_checked : (m : Machine) (a : Around) (r : Rtl) → (pure_meaning m a r).checked ≡ checked m r
unfolding pure_meaning
pure_checked m a r = meaning_checked m at_once (pure_steps m a) r

pub pure_out : (m : Machine) (a : Around) (r : Rtl) (l : Locals) (want : Option Mode) → (pure_meaning m a r).gives l want ≡ pure_gives m a (out-Rtl r).op (out-Rtl r).mode (out-Rtl r).number (map (pure_meaning m a) (out-Rtl r).items) l want
unfolding pure_meaning
pure_out m a r l want = gives_out m at_once (pure_steps m a) r l want

pub pure_said : (m : Machine) (a : Around) (r : Rtl) → (pure_meaning m a r).checked.said ≡ out-Rtl r
pure_said m a r = ap (λ c. c.said) (pure_checked m a r) ∙ said_is m r

pub pure_at : (m : Machine) (a : Around) (o : Op) (mode : Option Mode) (n : ℤ) (items : List Rtl) → pure_meaning m a (roll-Rtl (record { op = o; mode = mode; number = n; items = items })) ≡ meaning_step m at_once (pure_steps m a) (record { op = o; mode = mode; number = n; items = map (pure_meaning m a) items })
unfolding pure_meaning
pure_at m a o mode n items = meaning_at m at_once (pure_steps m a) o mode n items

-- The same at what an expression gives.
pub pure_gives_at : (m : Machine) (a : Around) (o : Op) (mode : Option Mode) (n : ℤ) (items : List Rtl) (l : Locals) (want : Option Mode) → (pure_meaning m a (roll-Rtl (record { op = o; mode = mode; number = n; items = items }))).gives l want ≡ pure_gives m a o mode n (map (pure_meaning m a) items) l want
pure_gives_at m a o mode n items l want = ap (λ c. c.gives l want) (pure_at m a o mode n items)

-- What computes an expression that is written out.
pub ruleset written_out = (pure_at, pure_gives_at, out_at, verdict_at, said_at, checked_at)

pub pure_says : (r : Rtl) → is_pure r ≡ pure_step (map-Rtl Rtl Bool is_pure (out-Rtl r))
unfolding is_pure
pure_says r = fold_out-Rtl Bool pure_step r
