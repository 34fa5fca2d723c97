-- What a buffer holds: the bytes before its len.
use Rattle.std.specs.Prelude.{◌≡◌, List, ◌++◌, ℕ, ◌+◌, ◌≤◌, length, take, drop}
use Rattle.lines.specs.declared.buffer.Buffer.{Buffer}

abbrev pub written : Buffer → List ℕ
written b = take b.len b.bytes

-- r is b with more bytes behind those that it holds
pub record Extends (b r : Buffer) (more : List ℕ) : Type 0 where
  pub text : written r ≡ written b ++ more
  pub len : r.len ≡ b.len + length more

-- r holds exactly this text; every line has room
pub record Exactly (r : Buffer) (text : List ℕ) : Type 0 where
  pub same : written r ≡ text
  pub len : r.len ≡ length text
  pub inside : r.len ≤ 64

-- the line's text stands behind the bytes before a place, what is behind it is as it was, and r is the place behind it
pub record Appended (at : ℕ) (line : Buffer) (r : ℕ) (before after : List ℕ) : Type 0 where
  pub place : r ≡ at + line.len
  pub text : take r after ≡ take at before ++ written line
  pub behind : drop r after ≡ drop r before
  pub long : length after ≡ length before
