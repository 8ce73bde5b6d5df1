-- One more line, and the draws that it takes.
use Rattle.std.proofs.Common.{◌≡◌, ◌∙◌, ℕ, ℤ, zero, suc, ◌+◌, ◌*◌, ◌%◌, ◌++◌, List, [], add-one, ap, sym, refl, append_assoc, arith}
use Rattle.std.proofs.lemmas.Grind.{common_steps}
use Rattle.cg_demo.specs.Demo.{next, drawn, after, operation, instruction_line, instructions, value, statement, drawn_statement, statements}

pub after_none : (x : ℕ) → after 0 x ≡ x
unfolding after
after_none x = refl

pub after_next : (n x : ℕ) → after (n + 1) x ≡ next (after n x)
unfolding after
after_next n x = rw (add-one n) refl

pub after_four : (i x : ℕ) → after (4 * (i + 1)) x ≡ next (next (next (next (after (4 * i) x))))
after_four i x =
    let four : 4 * (i + 1) ≡ 4 * i + 1 + 1 + 1 + 1 = omega arith in
    rw (four, after_next (4 * i + 1 + 1 + 1) x, after_next (4 * i + 1 + 1) x, after_next (4 * i + 1) x, after_next (4 * i) x) refl

pub instructions_none : (x : ℕ) → instructions x 0 ≡ []
unfolding instructions
instructions_none x = refl

pub instructions_next : (x k : ℕ) → instructions x (k + 1) ≡ instructions x k ++ instruction_line k (operation (drawn (after k x)))
unfolding instructions
instructions_next x k = rw (add-one k) refl

pub statements_none : (n x : ℕ) → statements n x 0 ≡ []
unfolding statements
statements_none n x = refl

pub statements_next : (n x i : ℕ) → statements n x (i + 1) ≡ statements n x i ++ drawn_statement n (after (4 * i) x)
unfolding statements
statements_next n x i = rw (add-one i) refl

-- a line that was made by a draw is the next line of the description
pub instruction_put : (front text line now op : List ℕ) (x state k draw : ℕ) → now ≡ text ++ line → line ≡ instruction_line k op → op ≡ operation draw → draw ≡ drawn state → text ≡ front ++ instructions x k → state ≡ after k x → now ≡ front ++ instructions x (k + 1)
instruction_put front text line now op x state k draw put made by number before at =
    put ∙ ap (λ t. t ++ line) before ∙ append_assoc front (instructions x k) line
    ∙ ap (λ l. front ++ (instructions x k ++ l)) (made ∙ ap (instruction_line k) (by ∙ ap operation (number ∙ ap drawn at)))
    ∙ ap (λ t. front ++ t) (sym (instructions_next x k))

-- a line that was made by four draws is the next line of the source
pub statement_put : (front text line now : List ℕ) (n x state i : ℕ) → now ≡ text ++ line → line ≡ drawn_statement n state → text ≡ front ++ statements n x i → state ≡ after (4 * i) x → now ≡ front ++ statements n x (i + 1)
statement_put front text line now n x state i put made before at =
    put ∙ ap (λ t. t ++ line) before ∙ append_assoc front (statements n x i) line
    ∙ ap (λ l. front ++ (statements n x i ++ l)) (made ∙ ap (drawn_statement n) at)
    ∙ ap (λ t. front ++ t) (sym (statements_next n x i))

-- four draws make a statement
pub statement_drawn : (n x x1 x2 x3 k d a v : ℕ) (w : ℤ) → k ≡ drawn x → x1 ≡ next x → d ≡ drawn x1 → x2 ≡ next x1 → a ≡ drawn x2 → x3 ≡ next x2 → v ≡ drawn x3 → w ≡ value v → statement (k % n) (d % 16) (a % 16) w ≡ drawn_statement n x
statement_drawn n x x1 x2 x3 k d a v w is_k is_x1 is_d is_x2 is_a is_x3 is_v is_w = rw (is_w, is_v, is_x3, is_a, is_x2, is_d, is_x1, is_k) refl

pub ruleset instruction_rules = (common_steps, after_none, after_next, instructions_none, instructions_next, append_assoc)

pub ruleset statement_rules = (common_steps, after_none, after_four, statements_none, statements_next, append_assoc)
