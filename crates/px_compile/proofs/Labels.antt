-- The labels of a tree that the tokens of a text spell are identifiers.
use Rattle.std.proofs.Common.{◌≡◌, ℕ, true, List, ◌++◌, length, Option, Some, None, refl, sym, ap, ◌∙◌}
use Rattle.std.specs.Option.{option_to_list}
use Rattle.std.specs.Prelude.{IsTrue}
use Rattle.std.proofs.lemmas.Bool.{and_from}
use Rattle.std.proofs.lemmas.List.Folds.{list_all-append}
use Rattle.px_value.specs.Name.{is_identifier}
use Rattle.px_lex.specs.declared.token.Token.{Token}
use Rattle.px_lex.specs.declared.token.TokenKind.TheVariants as kinds
use Rattle.px_lex.specs.Lexer.{Splits}
use Rattle.px_syntax.specs.declared.expr.Identifier.{Identifier}
use Rattle.px_syntax.specs.Block.{BlockTree, Braces, Actions, NoActions, More, ActionTree, Labelled, BranchTree, Branch, GuardedTree, Guarded, ElseIfs, NoElseIfs, ElseIf, ElseTree, NoElse, Else, BodyTree, Inner, Assign, CallInto, Call, Update, If, While, For}
use Rattle.px_syntax.specs.BlockGrammar.{label, block, each_action, action, branch, guarded, else_ifs, otherwise, body}
use Rattle.px_syntax.specs.Form.{kind_at}
use Rattle.px_syntax.specs.Plan.{PlanTree}
use Rattle.px_syntax.specs.PlanGrammar.{Spells}
use Rattle.px_syntax.proofs.Spelled.{IsSpelled, spelled_in}
use Rattle.px_expand.specs.Labels.{are_identifiers, block_labels, actions_labels, action_labels, body_labels, guarded_labels, else_if_labels, else_labels, branch_labels, has_identifiers}

-- ---- tokens

-- each identifier among the tokens is one
record AreNamed (tokens : List Token) : Type 0 where
  at :
      (number : ℕ) (name : List ℕ) → kind_at tokens number ≡ Some (kinds.Identifier name)
      → is_identifier name ≡ true

splits_named : (text : List ℕ) (tokens : List Token) → Splits text tokens → AreNamed tokens
splits_named text tokens splits =
    record {
      at =
          λ number name has.
          let there : IsSpelled text (kinds.Identifier name) = spelled_in text tokens splits (kinds.Identifier name) number has in
          ap is_identifier (sym there.token.same) ∙ there.token.word.word;
    }

-- ---- labels

both :
    (first second : List Identifier) → are_identifiers first ≡ true → are_identifiers second ≡ true
    → are_identifiers (first ++ second) ≡ true
both first second one other =
    list_all-append (λ (label : Identifier). is_identifier label.name) first second
    ∙ and_from (are_identifiers first) (are_identifiers second) one other

label_named :
    (tokens : List Token) → AreNamed tokens → (name : Option Identifier) (from to : ℕ) → label name tokens from to
    → are_identifiers (option_to_list name) ≡ true
label_named tokens named None from to o = refl
label_named tokens named (Some name) from to o =
    and_from (is_identifier name.name) true (named.at from name.name o.1.1.0) refl

mutual
  block_named :
      (tokens : List Token) → AreNamed tokens → (tree : BlockTree) (from to : ℕ) → block tree tokens from to
      → are_identifiers (block_labels tree) ≡ true
  block_named tokens named (Braces form items actions) from to o =
      actions_named tokens named actions o.2.2.2.0 o.2.2.2.2.0 o.2.2.2.2.1

  actions_named :
      (tokens : List Token) → AreNamed tokens → (tree : Actions) (from to : ℕ) → each_action tree tokens from to
      → are_identifiers (actions_labels tree) ≡ true
  actions_named tokens named NoActions from to o = refl
  actions_named tokens named (More first rest) from to o =
      both (action_labels first) (actions_labels rest)
      (action_named tokens named first from o.0 o.1) (actions_named tokens named rest o.0 to o.2)

  action_named :
      (tokens : List Token) → AreNamed tokens → (tree : ActionTree) (from to : ℕ) → action tree tokens from to
      → are_identifiers (action_labels tree) ≡ true
  action_named tokens named (Labelled name parts) from to o =
      both (option_to_list name) (body_labels parts)
      (label_named tokens named name from o.0 o.1) (body_named tokens named parts o.0 to o.2)

  branch_named :
      (tokens : List Token) → AreNamed tokens → (tree : BranchTree) (from to : ℕ) → branch tree tokens from to
      → are_identifiers (branch_labels tree) ≡ true
  branch_named tokens named (Branch name parts) from to o =
      both (option_to_list name) (block_labels parts)
      (label_named tokens named name from o.0 o.1) (block_named tokens named parts o.0 to o.2)

  guarded_named :
      (tokens : List Token) → AreNamed tokens → (tree : GuardedTree) (from to : ℕ) → guarded tree tokens from to
      → are_identifiers (guarded_labels tree) ≡ true
  guarded_named tokens named (Guarded test parts) from to o = branch_named tokens named parts o.2.2.0 to o.2.2.2

  else_ifs_named :
      (tokens : List Token) → AreNamed tokens → (tree : ElseIfs) (from to : ℕ) → else_ifs tree tokens from to
      → are_identifiers (else_if_labels tree) ≡ true
  else_ifs_named tokens named NoElseIfs from to o = refl
  else_ifs_named tokens named (ElseIf first rest) from to o =
      both (guarded_labels first) (else_if_labels rest)
      (guarded_named tokens named first o.0 o.2.0 o.2.1) (else_ifs_named tokens named rest o.2.0 to o.2.2)

  otherwise_named :
      (tokens : List Token) → AreNamed tokens → (tree : ElseTree) (from to : ℕ) → otherwise tree tokens from to
      → are_identifiers (else_labels tree) ≡ true
  otherwise_named tokens named NoElse from to o = refl
  otherwise_named tokens named (Else parts) from to o = branch_named tokens named parts o.0 to o.2

  body_named :
      (tokens : List Token) → AreNamed tokens → (tree : BodyTree) (from to : ℕ) → body tree tokens from to
      → are_identifiers (body_labels tree) ≡ true
  body_named tokens named (Inner parts) from to o = block_named tokens named parts from to o
  body_named tokens named (Assign target value) from to o = refl
  body_named tokens named (CallInto target call) from to o = refl
  body_named tokens named (Call call) from to o = refl
  body_named tokens named (Update token pairs) from to o = refl
  body_named tokens named (If first others last) from to o =
      both (guarded_labels first ++ else_if_labels others) (else_labels last)
      (both (guarded_labels first) (else_if_labels others)
      (guarded_named tokens named first o.0 o.2.0 o.2.1)
      (else_ifs_named tokens named others o.2.0 o.2.2.0 o.2.2.1))
      (otherwise_named tokens named last o.2.2.0 o.2.2.2.0 o.2.2.2.1)
  body_named tokens named (While parts) from to o = guarded_named tokens named parts o.0 to o.2
  body_named tokens named (For variable first test step parts) from to o =
      branch_named tokens named parts o.2.2.2.2.2.2.2.2.2.2.0 to o.2.2.2.2.2.2.2.2.2.2.2

-- a tree that the tokens of a text spell has identifiers for labels
pub labels_named :
    (text : List ℕ) (tokens : List Token) (tree : PlanTree) → Splits text tokens → Spells tree tokens
    → IsTrue (has_identifiers tree)
labels_named text tokens tree splits o =
    let named = splits_named text tokens splits in
    both (option_to_list tree.label) (block_labels tree.root)
    (label_named tokens named tree.label o.0 o.2.0 o.2.1)
    (block_named tokens named tree.root o.2.0 (length tokens) o.2.2)
