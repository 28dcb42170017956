-- The text of arguments, from a place on and of all of them.
use Rattle.std.proofs.Common.{◌≡◌, ℕ, ◌+◌, List, [], ◌∷◌, ◌++◌, map, length, append_assoc}
use Rattle.std.specs.Prelude.{Bool, false, codes, nat_eq, zero, suc}
use Rattle.px_syntax.specs.declared.expr.SurfaceExpr.{SurfaceExpr}
use Rattle.px_syntax.specs.Expr.{Terms, in_turn, term_of}
use Rattle.px_print.specs.ExprLayout.{arguments_text, further_text, as_optional}

-- the text of arguments from a place on, of which those before the place stand there
abbrev pub text_from : ℕ → Terms → List ℕ
text_from zero terms = arguments_text terms
text_from (suc place) terms = further_text terms

pub optional_laid : (args : List SurfaceExpr) (out o1 o2 new : List ℕ) (empty : Bool) → empty ≡ nat_eq (length args) 0 → empty ≡ false
    → o1 ≡ out ++ codes "(" → o2 ≡ o1 ++ arguments_text (in_turn (map term_of args)) → new ≡ o2 ++ codes ")"
    → new ≡ out ++ as_optional (in_turn (map term_of args)) (arguments_text (in_turn (map term_of args)))
optional_laid [] out o1 o2 new empty empty_is some e1 e2 e3 = cc
optional_laid (arg ∷ args) out o1 o2 new empty empty_is some e1 e2 e3 = rw (e3, e2, e1) (simp append_assoc)
