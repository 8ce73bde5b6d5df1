-- A text that was made is the text that was meant.
use Rattle.std.proofs.Common.{◌≡◌, ◌∙◌, Result, Ok, Err, IfOk}

pub made_as : {A E : Type 0} (result : Result A E) (made meant : A) → IfOk result (λ text. text ≡ made) → made ≡ meant → IfOk result (λ text. text ≡ meant)
made_as (Ok text) made meant is same = is ∙ same
made_as (Err fault) made meant is same = is
