-- From what is read behind the first token of an expression to the expression.
use Rattle.std.proofs.Common.{◌≡◌, ℕ, ◌+◌, ◌≤◌, ◌<◌, ◌⊎◌, inl, inr, sym, ap, subst, ◌∙◌, List, Some, arith}
use Rattle.std.specs.Option.{option_map, option_and_then}
use Rattle.px_lex.specs.declared.token.Token.{Token}
use Rattle.px_lex.specs.declared.token.TokenKind.{TokenKind}
use Rattle.px_syntax.specs.declared.fault.ParseFault.{ParseFault}
use Rattle.px_syntax.specs.declared.fault.ParseFault.TheVariants as faults
use Rattle.px_syntax.specs.Expr.{Term}
use Rattle.px_syntax.specs.ExprGrammar.{operand}
use Rattle.px_syntax.specs.Form.{Form, kind_at}
use Rattle.px_syntax.specs.Operator.{unary_of}
use Rattle.px_syntax.proofs.Levels.{binary_level}
use Rattle.px_expr_parse.specs.declared.opening.Opening.{Opening}
use Rattle.px_expr_parse.specs.Opening.{opening_of, Begins}
use Rattle.px_expr_parse.specs.Verdict.{Agree, GoesOn, IsRead, IsRefused, IsFound, IsMissing}
use Rattle.px_expr_parse.proofs.Completions.{begun_as}
use Rattle.px_expr_parse.proofs.Openings.{Produced, Rest, rest_of, Token_of, token_there}
use Rattle.px_expr_parse.proofs.Parts.{agree_before}

-- other tokens that agree begin the same there
pub begins_too :
    (tokens others : List Token) (from : ℕ) (opening : Opening) (last : ℕ) → from ≤ last
    → Agree tokens others last → Begins tokens from opening → Begins others from opening
begins_too tokens others from opening last le agree begins =
    record {
      opens = ap (option_map opening_of) (agree from le) ∙ begins.opens;
      no_operator = ap (option_and_then unary_of) (agree from le) ∙ begins.no_operator;
    }

-- Each tree that is read from a place is built of a part behind its first token, or ends behind that token and goes on.
pub record Produces {B : Type 0} (build : B → Term) (form : B → Form) (Short : List Token → Type 0) (tokens : List Token) (from : ℕ) : Type 0 where
  pub inverts :
      (others : List Token) → Agree tokens others (from + 1) → (tree : Term) (end : ℕ) → operand 8 tree others from end
      → Produced build form others from tree end ⊎ ((end ≡ from + 1) × Short others)
  pub builds :
      (others : List Token) → kind_at others from ≡ kind_at tokens from → (part : B) (end : ℕ) → form part others (from + 1) end
      → operand 8 (build part) others from end
  pub goes_on : (others : List Token) → Short others → GoesOn 8 others (from + 1)

module _ {B : Type 0} {build : B → Term} {form : B → Form} {Short : List Token → Type 0} {tokens : List Token} {from : ℕ}
    (p : Produces build form Short tokens from)
  where
    follows : (others : List Token) (end : ℕ) → (end ≡ from + 1) × Short others → GoesOn 8 others end
    follows others end ends = subst (λ (place : ℕ). GoesOn 8 others place) (sym ends.0) (p.goes_on others ends.1)

    pub refuse_produced : (fault : ParseFault) → IsMissing form tokens (from + 1) fault → IsRefused 8 tokens from fault
    refuse_produced (faults.SyntaxFault token) g = (
      omega (arith, g.0),
      g.1,
      λ others agree tree end o. elim (p.inverts others (agree_before tokens others (from + 1) token g.0 agree) tree end o) [
        | inl found ↦ absurd (g.2 others agree found.part end found.rest)
        | inr ends ↦ (omega (arith, ends.0, g.0), follows others end ends)
      ],
      begun_as g.3 (λ others agree end part o. (build part, p.builds others (agree from (omega (arith, g.0))) part end o)),
    )
    refuse_produced (faults.Deep token) g = g
    refuse_produced faults.NoMemory g = g

    pub read_produced :
        {part : B} {to : ℕ} → ((others : List Token) → Short others → from + 1 < to) → IsFound form tokens (from + 1) part to
        → IsRead 8 tokens from (build part) to
    read_produced {part = part} {to = to} longer g =
        record {
          advances = omega (arith, g.advances);
          within = g.within;
          longest = λ others agree.
              let one = g.only others agree in
              record {
                spelled = p.builds others (agree from (omega (arith, g.advances))) part to one.spelled;
                only = λ other end o. elim (p.inverts others (agree_before tokens others (from + 1) to g.advances agree) other end o) [
                  | inl found ↦
                      let is = one.only found.part end found.rest in inl (found.built ∙ ap build is.0, is.1)
                  | inr ends ↦ inr (omega (arith, ends.0, longer others ends.1), follows others end ends)
                ];
                ended = λ operator is. (binary_level operator).1;
              };
        }

-- no tree that ends behind its first token
abbrev pub Never : List Token → Type 0
Never tokens = ⊥

-- what begins tells the part behind it
pub record IsOpened {B : Type 0} (opening : Opening) (build : B → Term) (form : B → Form) (from : ℕ) : Type 0 where
  pub rest : (others : List Token) (tree : Term) (end : ℕ) → Rest opening others from tree end → Produced build form others from tree end
  pub builds :
      (others : List Token) (kind : TokenKind) → kind_at others from ≡ Some kind → Token_of opening kind
      → (part : B) (end : ℕ) → form part others (from + 1) end → operand 8 (build part) others from end

module _ {B : Type 0} {opening : Opening} {build : B → Term} {form : B → Form} {tokens : List Token} {from : ℕ}
    (i : IsOpened opening build form from) (begins : Begins tokens from opening)
  where
    produces : Produces build form Never tokens from
    produces =
        record {
          inverts = λ others agree tree end o.
              inl (i.rest others tree end
              (rest_of others from opening (begins_too tokens others from opening (from + 1) (omega arith) agree begins) tree end o));
          builds = λ others same. let t = token_there tokens from opening begins in i.builds others t.0 (same ∙ t.1) t.2;
          goes_on = λ others ends. absurd ends;
        }

    pub refuse_opened : (fault : ParseFault) → IsMissing form tokens (from + 1) fault → IsRefused 8 tokens from fault
    refuse_opened = refuse_produced produces

    pub read_opened : {part : B} {to : ℕ} → IsFound form tokens (from + 1) part to → IsRead 8 tokens from (build part) to
    read_opened = read_produced produces (λ others ends. absurd ends)
