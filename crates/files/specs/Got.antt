-- What a program knows of a file that it read.
use Rattle.std.specs.Prelude.{◌≡◌, List, ℕ, length, take, Option, Some, None, []}
use Rattle.std.specs.Bool.{OnTrue, OnFalse}
use Rattle.std.specs.Io.KnownBytes.{Consumes, IsAtEnd}
use Rattle.files.specs.Counts.{IsPrefixLen}
use Rattle.files.specs.declared.Got.{Got}

-- the bytes that were read stand at the start of the buffer, and fill it if the file has not ended
pub record Filled (got : Got) (buf : List ℕ) : Type 0 where
  pub counts : IsPrefixLen got.count buf
  pub stopped : OnFalse got.ended (got.count ≡ length buf)

-- they are the file's next, and its last where it has ended, if it is known which it has: a file in memory says, one of the system's does not
pub record ReadsOn (old new : Option (List ℕ)) (got : Got) (buf : List ℕ) : Type 0 where
  pub next : Consumes old new (take got.count buf)
  pub last : OnTrue got.ended (IsAtEnd new)

-- the bytes that a file has left; "a missing file counts as empty"
abbrev pub left : {F : Type 0} → (F → Option (List ℕ)) → Option F → Option (List ℕ)
left remaining (Some file) = remaining file
left remaining None = Some []
