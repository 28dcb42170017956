use Rattle.std.proofs.Common.{◌≡◌, List, [], subst}
use Rattle.std.proofs.lemmas.Str.{is_utf8-from_IsUtf8}
use Rattle.px_lex.specs.declared.token.Token.{Token}
use Rattle.px_syntax.specs.Depth.{too_deep}
use Rattle.px_syntax.specs.Plan.{tree_of_surface}
use Rattle.px_plan_parse.specs.Verdict as parsing
use Rattle.px_compile.proofs.plan.tree_in.Goals as goal

pub returns-in-Ok-clause-ok : goal.returns-in-Ok-clause-ok
returns-in-Ok-clause-ok c =
    record {
      tokens = c.in_ok-tokens.tokens.items;
      split = record { text = is_utf8-from_IsUtf8 c.args.text.now c.utf8.text; split = c.in_ok-tokens.ensures.ok };
      shallow = subst (λ (tokens : List Token). too_deep tokens ≡ []) c.deref.ensures.value c.in-Ok.ensures.shallow;
      spelled =
          subst (λ (tokens : List Token). parsing.IsPlan tokens (tree_of_surface c.in-Ok.tree)) c.deref.ensures.value
          c.in-Ok.ensures.ok;
    }

pub returns-clause-fault : goal.returns-clause-fault
returns-clause-fault c =
    c.no_tree.ensures c.args.text.now c.in_ok-tokens.tokens.items
    (record { text = is_utf8-from_IsUtf8 c.args.text.now c.utf8.text; split = c.in_ok-tokens.ensures.ok })
    (subst (λ (tokens : List Token). parsing.IsRefused tokens c.in-Err.fault) c.deref.ensures.value
    c.in-Err.ensures.fault)
