-- The signs and their spellings (PLEXIL reference manual), and where one ends.
use Rattle.std.specs.Prelude.{ℕ, Bool, true, false, not, ◌&&◌, ◌||◌, ◌==◌, List, [], ◌∷◌, ◌++◌, Option, is_none, codes}
use Rattle.std.specs.Str.{bytes_eq}
use Rattle.px_lex.specs.declared.sign.Sign.{Sign}
use Rattle.px_lex.specs.declared.sign.Sign.TheVariants as signs
use Rattle.px_lex.specs.Table.{row_of}

-- each sign with its spelling
abbrev pub sign_rows : List (List ℕ × Sign)
sign_rows =
    (codes "{", signs.OpenBrace)
    ∷ (codes "}", signs.CloseBrace)
    ∷ (codes "(", signs.OpenParen)
    ∷ (codes ")", signs.CloseParen)
    ∷ (codes "[", signs.OpenBracket)
    ∷ (codes "]", signs.CloseBracket)
    ∷ (codes "#(", signs.OpenList)
    ∷ (codes ",", signs.Comma)
    ∷ (codes ";", signs.Semicolon)
    ∷ (codes ":", signs.Colon)
    ∷ (codes "=", signs.Assign)
    ∷ (codes ".", signs.Dot)
    ∷ (codes "||", signs.OrOr)
    ∷ (codes "&&", signs.AndAnd)
    ∷ (codes "!", signs.Bang)
    ∷ (codes "==", signs.EqualEqual)
    ∷ (codes "!=", signs.NotEqual)
    ∷ (codes "<", signs.Less)
    ∷ (codes "<=", signs.LessEqual)
    ∷ (codes ">", signs.Greater)
    ∷ (codes ">=", signs.GreaterEqual)
    ∷ (codes "+", signs.Plus)
    ∷ (codes "-", signs.Minus)
    ∷ (codes "*", signs.Star)
    ∷ (codes "/", signs.Slash)
    ∷ (codes "%", signs.Percent)
    ∷ []

-- the sign that a spelling is
abbrev pub sign_of : List ℕ → Option Sign
sign_of spelling = row_of sign_rows spelling

-- whether the second byte is that of some sign of two bytes
abbrev pub ends_pair : List ℕ → Bool
ends_pair [] = false
ends_pair (a ∷ []) = false
ends_pair (a ∷ b ∷ cs) = (b == 40) || (b == 124) || (b == 38) || (b == 61)

-- whether a spelling opens a comment
abbrev pub opens_comment : List ℕ → Bool
opens_comment spelling = bytes_eq spelling (codes "//") || bytes_eq spelling (codes "/*")

-- whether a sign ends before the rest: with the next byte it makes no sign and opens no comment
abbrev pub ends_sign : List ℕ → List ℕ → Bool
ends_sign spelling [] = true
ends_sign spelling (c ∷ cs) =
    is_none (sign_of (spelling ++ c ∷ [])) && not (opens_comment (spelling ++ c ∷ []))
