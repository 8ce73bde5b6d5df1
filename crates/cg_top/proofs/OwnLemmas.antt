-- What comes of reading the file that a command reads besides the description.
use Rattle.std.proofs.Common.{◌≡◌, ◌⊎◌, ◌≤◌, ℕ, List, [], ◌++◌, length, Option, Some, None, Result, Ok, Err, refl, sym, ap, ◌∙◌, inl, inr, append_assoc, arith}
use Rattle.std.proofs.lemmas.List.{append-nil}
use Rattle.cg_base.specs.Counts.{Rose}
use Rattle.cg_top_include.specs.Gathering.{Opens, unread, refused, read, Gathers, whole, short, file, another}
use Rattle.cg_top_include.specs.declared.gathering.Fetched.{Fetched}
use Rattle.cg_top_include.specs.declared.gathering.Sources.{Sources}
use Rattle.cg_base.specs.declared.form.Top.{Top}
use Rattle.cg_io.specs.Asking.{Asking}
use Rattle.cg_io.specs.Held.{Held, appended}
use Rattle.cg_top.specs.Own.{own_file, IsOut, HasWithin, IsOwn}
use Rattle.cg_top.specs.declared.asking.Command.{Command}

pub nothing_asked : (told : Option (List Asking)) → appended told [] ≡ told
nothing_asked None = refl
nothing_asked (Some asked) = ap Some (append-nil asked)

pub asked_twice : (told : Option (List Asking)) (a b : List Asking) → appended (appended told a) b ≡ appended told (a ++ b)
asked_twice None a b = refl
asked_twice (Some asked) a b = ap Some (append_assoc asked a b)

-- A file has one text, and none where it is lacking.
pub one_text : {files : Held} {x : Asking} {a b : List ℕ} → HasWithin (Some files) x a → HasWithin (Some files) x b → a ≡ b
one_text {a = a} {b = b} p q = let e : Some a ≡ Some b = sym p.there ∙ q.there in cc

pub out_text : {files : Held} {x : Asking} {bytes : List ℕ} → IsOut (Some files) x ⊎ ⊥ → HasWithin (Some files) x bytes → ⊥
out_text {bytes = bytes} (inl (inl lacks)) p = let e : Some bytes ≡ None = sym p.there ∙ lacks in cc
out_text {x = x} {bytes = bytes} (inl (inr (more, there, long))) p =
    let e : Some bytes ≡ Some more = sym p.there ∙ there in
    let same : bytes ≡ more = cc in
    let lengths : length bytes ≡ length more = ap length same in
    let within : length bytes ≤ x.1 = p.within in
    omega (arith, lengths, within, long)
out_text (inr none) p = none

pub none_out : (asking : Asking) → IsOut None asking → ⊥
none_out asking (inl x) = x
none_out asking (inr x) = x

-- What is given without a fault, or a fault came and the file is unread.
pub own_known : (held : Option Held) (fault : Type 0) (command : Command) (fetched : Fetched) (own : Result (List ℕ) (List ℕ)) → IsOwn (own_file command fetched) held fault own →
    IsOwn (own_file command fetched) held ⊥ own ⊎ (fault × ((x : Asking) × (own_file command fetched ≡ Some x) × (own ≡ Err x.0)))
own_known held fault command fetched own given = at (own_file command fetched) refl own given where
  at : (file : Option Asking) → own_file command fetched ≡ file → (r : Result (List ℕ) (List ℕ)) → IsOwn file held fault r → IsOwn file held ⊥ r ⊎ (fault × ((x : Asking) × (own_file command fetched ≡ Some x) × (r ≡ Err x.0)))
  at None is r x = inl x
  at (Some asking) is (Ok bytes) x = inl x
  at (Some asking) is (Err other) (same, inl out) = inl (same, inl out)
  at (Some asking) is (Err other) (same, inr came) = inr (came, (asking, is, ap Err same))

-- A fault of a part is one of the whole.
pub own_more : (held : Option Held) (fault more : Type 0) (file : Option Asking) (own : Result (List ℕ) (List ℕ)) → (fault → more) → IsOwn file held fault own → IsOwn file held more own
own_more held fault more None own f x = x
own_more held fault more (Some asking) (Ok bytes) f x = x
own_more held fault more (Some asking) (Err other) f (same, inl out) = (same, inl out)
own_more held fault more (Some asking) (Err other) f (same, inr came) = (same, inr (f came))

mutual
  pub opens_more : {held : Option Held} {fault more : Type 0} {s : Sources} {n : List ℕ} {ts : List Top} {f : Fetched} → (fault → more) → Opens held fault s n ts f → Opens held more s n ts f
  opens_more g (unread (inl lacking)) = unread (inl lacking)
  opens_more g (unread (inr came)) = unread (inr (g came))
  opens_more g (refused t x) = refused t x
  opens_more g (read t r x) = read t r (gathers_more g x)

  gathers_more : {held : Option Held} {fault more : Type 0} {s : Sources} {ts : List Top} {f : Fetched} → (fault → more) → Gathers held fault s ts f → Gathers held more s ts f
  gathers_more g (whole e q) = whole e q
  gathers_more g (short e i r x q) = short e i r (gathers_more g x) q
  gathers_more g (file e i m o q) = file e i m (opens_more g o) q
  gathers_more g (another e i m q) = another e i m q

pub rose_later : (a b c : ℕ) → Rose a b → b ≤ c → Rose a c
rose_later a b c r le = omega (arith, r, le)

pub rose_before : (a b c : ℕ) → a ≤ b → Rose b c → Rose a c
rose_before a b c le r = omega (arith, r, le)
