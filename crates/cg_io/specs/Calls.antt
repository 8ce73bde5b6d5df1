-- Calls that are counted from 0, of which those fail whose numbers stand in a list.
use Rattle.std.specs.Prelude.{ℕ, ◌+◌, ◌^◌, ◌==◌, nat_lt, Bool, false, if◌then◌else◌, List, Option, Some, None, refl}
use Rattle.std.specs.List.{list_any}
use Rattle.std.specs.Coded.{Coded, code_by, coded×, coded_list, coded_option, coded_ℕ}
use Rattle.cg_io.specs.declared.calls.Calls.{Calls}
use Rattle.cg_base.specs.Counts.{raised}

-- no call was made yet, and those with these numbers will fail
abbrev pub no_calls : List ℕ → Calls
no_calls failing = record { failing = failing; next = Some 0; faults = 0 }

-- whether the number stands in the list
abbrev pub stands_in : Option ℕ → List ℕ → Bool
stands_in None failing = false
stands_in (Some number) failing = list_any (λ y. y == number) failing

-- whether the next call fails: exactly where its number stands among those that do
abbrev pub will_fail : Calls → Bool
will_fail c = stands_in c.next c.failing

-- the number after this one. Past 2^64 - 1 there is none, and no list has one
abbrev pub following : Option ℕ → Option ℕ
following None = None
following (Some number) = if nat_lt (number + 1) (2 ^ 64) then Some (number + 1) else None

-- how many calls have failed
abbrev pub faults_of : Calls → ℕ
faults_of c = c.faults

-- the count of faults after one more call, which rises exactly where that call fails
abbrev pub faults_after : Calls → ℕ
faults_after c = if will_fail c then raised c.faults else c.faults

-- after one more call
abbrev pub after_call : Calls → Calls
after_call c = record { failing = c.failing; next = following c.next; faults = faults_after c }

-- calls are stored as the tuple of their fields
abbrev pub calls_code : Coded Calls
calls_code =
    code_by (List ℕ × (Option ℕ × ℕ)) (coded× (coded_list coded_ℕ) (coded× (coded_option coded_ℕ) coded_ℕ))
    (λ c. (c.failing, (c.next, c.faults))) (λ p. record { failing = p.0; next = p.1.0; faults = p.1.1 }) (λ _. refl)
