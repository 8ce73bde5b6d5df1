-- Laws of computations that follow one another.
use Rattle.std.proofs.Common.{◌≡◌, ℕ, refl}
use Rattle.cg_model_effects.specs.Asking.{Held, Ask, bind}
use Rattle.cg_model_effects.specs.Asking.Ask.{Done, Trapped, Asked}

-- It doesn't matter how three are joined.
pub bind_bind : (x : Ask) (f g : ℕ → Held → Ask) → bind (bind x f) g ≡ bind x (λ n h. bind (f n h) g)
bind_bind (Done n h) f g = refl
bind_bind (Trapped t) f g = refl
bind_bind (Asked address width k) f g = λ i. Asked address width (λ r. (bind_bind (k r) f g) i)

-- What gives its value on as it is adds nothing.
pub bind_done : (x : Ask) → bind x Done ≡ x
bind_done (Done n h) = refl
bind_done (Trapped t) = refl
bind_done (Asked address width k) = λ i. Asked address width (λ r. (bind_done (k r)) i)
