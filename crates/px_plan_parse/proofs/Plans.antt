-- The whole plan.
use Rattle.std.proofs.Common.{◌≡◌, ℕ, ◌≤◌, ◌<◌, ◌⊎◌, inl, inr, get_or, refl, sym, ap, subst, ◌∙◌, List, [], ◌∷◌, length, Option, Some, None, false, arith}
use Rattle.std.specs.Option.{option_map}
use Rattle.std.specs.List.{slice_get}
use Rattle.std.proofs.lemmas.Option.{slice_get_cases}
use Rattle.px_lex.specs.declared.token.Token.{Token}
use Rattle.px_lex.specs.declared.token.TokenKind.{TokenKind}
use Rattle.px_syntax.specs.declared.expr.Identifier.{Identifier}
use Rattle.px_syntax.specs.declared.fault.ParseFault.{ParseFault}
use Rattle.px_syntax.specs.declared.fault.ParseFault.TheVariants as faults
use Rattle.px_syntax.specs.Block.{BlockTree}
use Rattle.px_syntax.specs.BlockGrammar.{block, label}
use Rattle.px_syntax.specs.Depth.{too_deep}
use Rattle.px_syntax.specs.Form.{Form, kind_at}
use Rattle.px_syntax.specs.Plan.{DeclarationData, PlanTree}
use Rattle.px_syntax.specs.PlanGrammar.{plan, Spells}
use Rattle.px_expr_parse.specs.Verdict.{Agree, IsBegun}
use Rattle.px_expr_parse.proofs.Completions.{begun_whole, whole_of}
use Rattle.px_plan_parse.proofs.Spans.{local_plan}
use Rattle.px_expr_parse.proofs.Calls.{inside_of}
use Rattle.px_plan_parse.specs.declared.start.Start.{Start}
use Rattle.px_plan_parse.specs.declared.start.Start.TheVariants as starts
use Rattle.px_plan_parse.specs.Part.{Anything, IsLacking, IsPart}
use Rattle.px_plan_parse.specs.Start.{NoDeclaration, is_declaration, start_at}
use Rattle.px_plan_parse.specs.Tail.{every_declaration}
use Rattle.px_plan_parse.specs.Verdict.{BeginsPlan, IsFaultAt, IsNoPlan, IsPlan, IsRefused}
use Rattle.px_plan_parse.proofs.Blocks.{block_sort}
use Rattle.px_plan_parse.proofs.Parts.{Begins, Makes, both, makes_by}
use Rattle.px_plan_parse.proofs.Sorts as sorts
use Rattle.px_plan_parse.proofs.Sorts.{sort_of}
use Rattle.px_plan_parse.proofs.Starts.{start_name}

abbrev pub plan_parts : List DeclarationData × (Option Identifier × BlockTree) → Form
plan_parts = both every_declaration (both label block)

pub makes_plan :
    (tokens : List Token) (from : ℕ)
    → Makes plan plan_parts
    (λ (parts : List DeclarationData × (Option Identifier × BlockTree)).
    record { declarations = parts.0; label = parts.1.0; root = parts.1.1 }) tokens from
makes_plan tokens from =
    makes_by (λ others part end o. o) (λ others same tree end o. ((tree.declarations, (tree.label, tree.root)), refl, o))

inner_declares_none : (start : Start) → sort_of start ≡ Some sorts.Inner → is_declaration start ≡ false
inner_declares_none (starts.Type of_type) inner = absurd (cc)
inner_declares_none starts.Command inner = absurd (cc)
inner_declares_none start inner = refl

pub root_begins : Begins (both label block) Anything NoDeclaration
root_begins tokens (None, root) from end o next =
    inner_declares_none (start_at tokens from)
    (ap (λ (p : ℕ). sort_of (start_at tokens p)) (sym o.1) ∙ block_sort root tokens o.0 end o.2)
root_begins tokens (Some name, root) from end o next = ap is_declaration (start_name tokens from name.name o.1.1.1.0)

module _ (tokens : List Token) where
  pub is_plan :
      (tree : PlanTree) (end : ℕ) → length tokens ≤ end → IsPart plan Anything tokens 0 tree end → IsPlan tokens tree
  is_plan tree end all f =
      let whole : end ≡ length tokens = omega (arith, all, f.within) in
      let sole = f.sole tokens (λ place le. refl) in
      record {
        spelled = subst (λ (p : ℕ). plan tree tokens 0 p) whole sole.spelled;
        only = λ other o. (sole.only other (length tokens) o tt).0;
      }

  begins_plan : (token : ℕ) → token ≤ length tokens → IsBegun plan tokens 0 token → BeginsPlan tokens token
  begins_plan token within begun =
      let whole = whole_of tokens 0 token within begun in
      record { others = whole.0; agree = whole.2; tree = whole.1; spelled = whole.3 }

  pub is_no_plan : (fault : ParseFault) → IsLacking plan Anything tokens 0 fault → IsNoPlan tokens fault
  is_no_plan (faults.SyntaxFault token) f =
      let l = f.named token refl in
      record {
        within = l.within;
        begun = begins_plan token l.within l.begun;
        none = λ others agree tree o. l.none others agree tree (length others) o tt;
      }
  is_no_plan (faults.Deep token) f = f.shallow token refl
  is_no_plan faults.NoMemory f = tt

  -- a plan that ends before a token
  pub goes_on : (tree : PlanTree) (end : ℕ) → end < length tokens → IsPart plan Anything tokens 0 tree end → IsFaultAt tokens end
  goes_on tree end more f =
      record {
        within = f.within;
        begun = begins_plan end f.within (begun_whole tree (local_plan tree) (f.sole tokens (λ place le. refl)).spelled);
        none = λ others agree other o. none others agree ((f.sole others agree).only other (length others) o tt).1;
      }
    where
      there : (kind : TokenKind) × (kind_at tokens end ≡ Some kind)
      there = go (slice_get_cases tokens end).1
        where
          go :
              ((token : Token) × (end < length tokens) × (slice_get tokens end ≡ Some token) × (get_or tokens end token ≡ token))
              ⊎ ((length tokens ≤ end) × (slice_get tokens end ≡ None))
              → (kind : TokenKind) × (kind_at tokens end ≡ Some kind)
          go (inl is) = (is.0.kind, ap (λ (t : Option Token). option_map (λ (x : Token). x.kind) t) is.2)
          go (inr past) = absurd (omega (arith, past.0, more))

      none : (others : List Token) → Agree tokens others end → length others ≡ end → ⊥
      none others agree same =
          let t = there in
          let inside = inside_of others end t.0 (agree end (omega arith) ∙ t.1) in
          omega (arith, inside, same)

  -- no fault is before another, so they are at one place
  not_before : (first second : ℕ) → IsFaultAt tokens first → IsFaultAt tokens second → first < second → ⊥
  not_before first second f g before =
      f.none g.begun.others (λ place inside. g.begun.agree place (omega (arith, inside, before))) g.begun.tree g.begun.spelled

  pub one_place : (first second : ℕ) → IsFaultAt tokens first → IsFaultAt tokens second → first ≡ second
  one_place first second f g = omega (arith, not_before first second f g, not_before second first g f)

-- tokens that spell a plan, and of which none is too deep, are refused for nothing but want of memory
pub only_memory : (tokens : List Token) (tree : PlanTree) → Spells tree tokens → too_deep tokens ≡ [] → (fault : ParseFault)
    → IsRefused tokens fault → fault ≡ faults.NoMemory
only_memory tokens tree spelled shallow (faults.Deep token) refused =
    let both : token ∷ refused.0 ≡ [] = sym refused.1 ∙ shallow in cc
only_memory tokens tree spelled shallow (faults.SyntaxFault token) refused =
    absurd (refused.1.none tokens (λ place within. refl) tree spelled)
only_memory tokens tree spelled shallow faults.NoMemory refused = refl
