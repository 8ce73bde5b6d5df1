-- The file that a command reads besides the description, once that is read.
use Rattle.std.specs.Prelude.{◌≡◌, ◌⊎◌, ℕ, ◌≤◌, List, [], ◌∷◌, length, Option, Some, None, Result, Ok, Err}
use Rattle.cg_top_include.specs.Fetching.{IsFetched}
use Rattle.cg_top_include.specs.declared.gathering.Fetched.{Fetched}
use Rattle.cg_top_include.specs.declared.gathering.Fetched.TheVariants.{Read, Refused, Unread}
use Rattle.cg_io.specs.Asking.{Asking}
use Rattle.cg_io.specs.Held.{Held, HasBytes, Lacks, HasMore}
use Rattle.cg_top.specs.declared.asking.Command.{Command}
use Rattle.cg_top.specs.declared.asking.Command.TheVariants.{Check, Decode, Assemble, ListImage}
use Rattle.cg_top.specs.declared.own.Own as declared
use Rattle.cg_top.specs.declared.own.Own.TheVariants as own

-- Its name and the most bytes that it may have, where the command has one. A source has at most 4 MiB, and an image 1 MiB.
abbrev pub own_asking : Command → Option Asking
own_asking Check = None
own_asking (Decode bytes) = None
own_asking (Assemble it) = Some (it.source, 4194304)
own_asking (ListImage it) = Some (it.image, 1048576)

-- The same, where the description was read.
abbrev pub own_file : Command → Fetched → Option Asking
own_file command (Read forms names) = own_asking command
own_file command (Refused refusal names) = None
own_file command (Unread name names) = None

abbrev pub own_asked : Option Asking → List Asking
own_asked None = []
own_asked (Some asking) = asking ∷ []

-- The files are told, and this one isn't among them or is too long.
abbrev pub IsOut : Option Held → Asking → Type 0
IsOut held asking = Lacks held asking.0 ⊎ HasMore held asking.0 asking.1

-- The file has these bytes, where files are told, and they are not too many.
pub record HasWithin (held : Option Held) (asking : Asking) (bytes : List ℕ) : Type 0 where
  pub there : HasBytes held asking.0 bytes
  pub within : length bytes ≤ asking.1

-- Its bytes, or its name where it is lacking or too long or a fault came. Where there is none, no bytes stand for it.
abbrev pub IsOwn : Option Asking → Option Held → Type 0 → Result (List ℕ) (List ℕ) → Type 0
IsOwn None held fault given = given ≡ Ok []
IsOwn (Some asking) held fault (Ok bytes) = HasWithin held asking bytes
IsOwn (Some asking) held fault (Err unread) = (unread ≡ asking.0) × (IsOut held asking ⊎ fault)

-- It can't be read though the description was, and no fault came.
pub record IsOwnUnreadable (desc : List ℕ) (command : Command) (held : Option Held) : Type 0 where
  pub fetched : Fetched
  pub reading : IsFetched desc held ⊥ fetched
  pub asking : Asking
  pub there : own_file command fetched ≡ Some asking
  pub out : IsOut held asking

-- What came of reading it.
abbrev pub seen_own : declared.Own → Result (List ℕ) (List ℕ)
seen_own (own.Bytes bytes) = Ok bytes.items
seen_own (own.Unread name) = Err name
