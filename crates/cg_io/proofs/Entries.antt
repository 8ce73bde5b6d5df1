-- What entries hold, by their last one.
use Rattle.std.specs.Prelude.{◌≡◌, ℕ, List, [], ◌∷◌, ◌++◌, map, Some, None, Bool, if◌then◌else◌}
use Rattle.std.proofs.Common.{ap, sym, ◌∙◌}
use Rattle.std.proofs.lemmas.List.{reverse-append}
use Rattle.std.specs.Ordering.{nat_cmp}
use Rattle.std.specs.Prelude.{nat_eq}
use Rattle.std.specs.Cmp.Lexicographic.{slice_cmp, nat_list_cmp_total, pointwise, texts_ties}
use Rattle.std.specs.FinMap.{from_entries, insert, get, get-insert, get-empty}
use Rattle.cg_io.specs.declared.memory.Entry.{Entry}
use Rattle.cg_io.specs.Memory.{pair, held_by}

-- one more entry at the end is one more insertion
pub held_by-push : (es : List Entry) (e : Entry) → held_by (es ++ e ∷ []) ≡ insert (held_by es) e.name e.bytes
held_by-push es e = ap (λ (x : List Entry). from_entries (map pair x)) (reverse-append es (e ∷ []))

-- so a name has the last entry's bytes where that is its name, and else what it had
pub get_pushed : (es : List Entry) (e : Entry) (name : List ℕ) (b : Bool) → b ≡ pointwise nat_eq name e.name →
    get (held_by (es ++ e ∷ [])) name ≡ (if b then Some e.bytes else get (held_by es) name)
get_pushed es e name b h =
    ap (λ m. get m name) (held_by-push es e) ∙ get-insert nat_list_cmp_total (held_by es) e.name e.bytes name
    ∙ ap (λ x. if x then Some e.bytes else get (held_by es) name) (sym (h ∙ texts_ties name e.name))

-- no entries hold nothing
pub get_none : (name : List ℕ) → get (held_by []) name ≡ None
get_none name = get-empty (slice_cmp nat_cmp) name
