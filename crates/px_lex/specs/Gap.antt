-- What may stand between tokens.
use Rattle.std.specs.Prelude.{◌≡◌, ℕ, Bool, true, false, not, ◌&&◌, ◌||◌, ◌==◌, List, [], ◌∷◌, ◌++◌, drop, Option, Some, None, codes, if◌then◌else◌}
use Rattle.std.specs.List.{list_all}

-- whether a text begins with a byte that passes
abbrev pub begins : (ℕ → Bool) → List ℕ → Bool
begins test [] = false
begins test (c ∷ cs) = test c

-- a blank, a tab, a line feed or a carriage return
abbrev pub is_white_space : ℕ → Bool
is_white_space c = (c == 32) || (c == 9) || (c == 10) || (c == 13)

-- every byte but a line feed
abbrev pub is_in_line : ℕ → Bool
is_in_line c = not (c == 10)

-- the text behind the next */, where there is one
abbrev pub after_close : List ℕ → Option (List ℕ)
after_close [] = None
after_close (c ∷ cs) =
    if (c == 42) && begins (λ d. d == 47) cs then Some (drop 1 cs) else after_close cs

-- // up to the next line feed or the end
pub record IsLineComment (spelling rest : List ℕ) : Type 0 where
  pub comment : List ℕ
  pub spelled : spelling ≡ codes "//" ++ comment
  pub one_line : list_all is_in_line comment ≡ true
  pub longest : begins is_in_line rest ≡ false

-- /* up to the next */
pub record IsComment (spelling rest : List ℕ) : Type 0 where
  pub tail : List ℕ
  pub spelled : spelling ++ rest ≡ codes "/*" ++ tail
  pub closed : after_close tail ≡ Some rest

-- a gap before the rest
pub data IsGap (spelling rest : List ℕ) : Type 0 where
  blank : (c : ℕ) → spelling ≡ c ∷ [] → is_white_space c ≡ true → IsGap spelling rest
  line_comment : IsLineComment spelling rest → IsGap spelling rest
  comment : IsComment spelling rest → IsGap spelling rest
