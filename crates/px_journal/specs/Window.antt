-- A part of a file's bytes that was read.
use Rattle.std.specs.Prelude.{◌≡◌, ℕ, List, length, take, drop}

pub record WindowState : Type 0 where
  pub place : ℕ
  pub bytes : List ℕ

-- the window's bytes are those from its place on
abbrev pub Shows : WindowState → List ℕ → Type 0
Shows window told = window.bytes ≡ take (length window.bytes) (drop window.place told)
