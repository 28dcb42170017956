-- Blocks and their actions are printed.
use Rattle.std.proofs.Common.{◌≡◌, ℕ, true, List, ◌++◌, Option, Some, None, refl, ap, ◌∙◌, inl, inr}
use Rattle.std.specs.Prelude.{codes}
use Rattle.std.specs.List.{list_all}
use Rattle.std.specs.Option.{option_map}
use Rattle.std.proofs.lemmas.List.Folds.{list_all-append}
use Rattle.px_lex.specs.declared.keyword.Keyword.TheVariants as words
use Rattle.px_lex.specs.declared.sign.Sign.TheVariants as signs
use Rattle.px_lex.specs.declared.token.Token.{Token}
use Rattle.px_lex.specs.Gap.{is_white_space}
use Rattle.px_syntax.specs.declared.expr.Identifier.{Identifier}
use Rattle.px_syntax.specs.declared.word.BlockForm.{BlockForm}
use Rattle.px_syntax.specs.declared.word.BlockForm.TheVariants as forms
use Rattle.px_syntax.specs.Block.{ItemData, TargetData, CallData, PairData, BlockTree, Braces, Actions, NoActions, More, ActionTree, Labelled, BranchTree, Branch, GuardedTree, Guarded, ElseIfs, NoElseIfs, ElseIf, ElseTree, NoElse, Else, BodyTree, Inner, Assign, CallInto, Call, Update, If, While, For}
use Rattle.px_syntax.specs.BlockGrammar.{item, label, target, call, pair, form_word, node_list_word, block, each_action, action, branch, guarded, else_ifs, otherwise, body}
use Rattle.px_syntax.specs.Expr.{Term}
use Rattle.px_syntax.specs.ExprGrammar.{indexed}
use Rattle.px_syntax.specs.Form.{Form, maybe}
use Rattle.px_print.specs.BlockLayout.{deeper, line, item_text, label_text, index_text, target_text, call_text, pair_text, form_text, node_list_text, block_text, actions_text, action_text, branch_text, guarded_text, else_ifs_text, else_text, body_text}
use Rattle.px_print.specs.Unnumbered.{plain_name, plain_item, plain_target, plain_call, plain_pair, plain_block, plain_actions, plain_action, plain_branch, plain_guarded, plain_else_ifs, plain_else, plain_body}
use Rattle.px_print.proofs.Exprs.{Alike, prints_open, prints_close, prints_name, prints_whole, prints_arguments}
use Rattle.px_print.proofs.Items.{prints_semicolon, prints_equals, prints_item, prints_signed}
use Rattle.px_print.proofs.Lists.{prints_each, prints_commas}
use Rattle.px_print.proofs.Printing.{Prints, follow, prints_as, prints_then, prints_nothing, prints_behind, prints_before}
use Rattle.px_print.proofs.Tokens.{AllCan, Ends, Stops, prints_keyword, prints_any}

-- blanks
abbrev pub IsMargin : List ℕ → Type 0
IsMargin margin = list_all is_white_space margin ≡ true

deeper_margin : (margin : List ℕ) → IsMargin margin → IsMargin (deeper margin)
deeper_margin margin blank = list_all-append is_white_space margin (codes "  ") ∙ rw blank

-- a line
prints_line : {source : List ℕ} {f : Form} {text : List ℕ} (margin rest : List ℕ) → IsMargin margin → Prints source f text (codes "\n" ++ rest) → Prints source f (line margin text) rest
prints_line margin rest blank p = prints_behind margin blank (prints_before (codes "\n") rest refl p)

prints_form : {source : List ℕ} (form : BlockForm) (rest : List ℕ) → Prints source (form_word form) (form_text form) rest
prints_form forms.Plain rest = prints_nothing rest
prints_form forms.NodeList rest = prints_nothing rest
prints_form forms.Sequence rest = prints_before (codes " ") rest refl (prints_keyword words.Sequence (codes "Sequence") (codes " " ++ rest) refl refl)
prints_form forms.UncheckedSequence rest =
    prints_before (codes " ") rest refl (prints_keyword words.UncheckedSequence (codes "UncheckedSequence") (codes " " ++ rest) refl refl)
prints_form forms.Concurrence rest = prints_before (codes " ") rest refl (prints_keyword words.Concurrence (codes "Concurrence") (codes " " ++ rest) refl refl)
prints_form forms.Try rest = prints_before (codes " ") rest refl (prints_keyword words.Try (codes "Try") (codes " " ++ rest) refl refl)

prints_node_list : {source : List ℕ} (margin : List ℕ) → IsMargin margin → (form : BlockForm) (rest : List ℕ)
    → Prints source (node_list_word form) (node_list_text margin form) rest
prints_node_list margin blank forms.Plain rest = prints_nothing rest
prints_node_list margin blank forms.NodeList rest =
    let colon = prints_any signs.Colon (codes ":") (codes "\n" ++ rest) refl (λ c cs. refl) in
    prints_line margin rest blank (prints_then colon (prints_keyword words.NodeList (codes "NodeList") (follow colon) refl refl))
prints_node_list margin blank forms.Sequence rest = prints_nothing rest
prints_node_list margin blank forms.UncheckedSequence rest = prints_nothing rest
prints_node_list margin blank forms.Concurrence rest = prints_nothing rest
prints_node_list margin blank forms.Try rest = prints_nothing rest

module _ {source : List ℕ} (given : List Token) (all : AllCan source given) where
  -- ---- simple actions

  pub prints_label : (name : Option Identifier) (from to : ℕ) → label name given from to → (rest : List ℕ)
      → Prints source (Alike label (option_map plain_name) name) (label_text name) rest
  prints_label None from to h rest = prints_as (prints_nothing rest) (λ tokens from to r. (None, refl, r))
  prints_label (Some name) from to h rest =
      let colon = prints_before (codes " ") rest refl (prints_any signs.Colon (codes ":") (codes " " ++ rest) refl (λ c cs. refl)) in
      prints_as (prints_then colon (prints_name given all name from h.0 h.1 (follow colon) refl))
      (λ tokens from to r. (Some r.1.0, ap (λ n. Some n) r.1.1, (r.0, r.1.2, r.2)))

  prints_target : (part : TargetData) (from to : ℕ) → target part given from to → (rest : List ℕ) → Ends rest
      → Prints source (Alike target plain_target part) (target_text part) rest
  prints_target part from to h rest ends = of_index part.index h.2
    where
      of_index : (index : Option Term) → maybe indexed index given h.0 to
          → Prints source (Alike target plain_target (record { name = part.name; index = index })) (part.name.name ++ index_text index) rest
      of_index None nothing_is =
          let none = prints_nothing rest in
          prints_as (prints_then none (prints_name given all part.name from h.0 h.1 (follow none) ends))
          (λ tokens from to r. (record { name = r.1.0; index = None }, (λ i. record { name = r.1.1 i; index = None }), (r.0, r.1.2, r.2)))
      of_index (Some index) i =
          let close = prints_any signs.CloseBracket (codes "]") rest refl (λ c cs. refl) in
          let inside = prints_then close (prints_whole given all index i.0 i.2.0 i.2.1 (follow close) (refl, refl)) in
          let opened = prints_then inside (prints_any signs.OpenBracket (codes "[") (follow inside) refl (λ c cs. refl)) in
          prints_as (prints_then opened (prints_name given all part.name from h.0 h.1 (follow opened) refl))
          (λ tokens from to r. (
            record { name = r.1.0; index = Some r.2.2.1.0 },
            (λ i. record { name = r.1.1 i; index = Some (r.2.2.1.1 i) }),
            (r.0, r.1.2, (r.2.0, r.2.1, (r.2.2.0, r.2.2.1.2, r.2.2.2))),
          ))

  prints_call : (part : CallData) (from to : ℕ) → call part given from to → (rest : List ℕ)
      → Prints source (Alike call plain_call part) (call_text part) rest
  prints_call part from to h rest =
      let close = prints_close rest in
      let inside = prints_then close (prints_arguments given all part.args h.2.0 h.2.2.0 h.2.2.1 (follow close) (refl, refl)) in
      let opened = prints_then inside (prints_open (follow inside)) in
      prints_as (prints_then opened (prints_name given all part.name from h.0 h.1 (follow opened) refl))
      (λ tokens from to r. (
        record { name = r.1.0; args = r.2.2.1.0 },
        (λ i. record { name = r.1.1 i; args = r.2.2.1.1 i }),
        (r.0, r.1.2, (r.2.0, r.2.1, (r.2.2.0, r.2.2.1.2, r.2.2.2))),
      ))

  prints_pair : (part : PairData) (from to : ℕ) → pair part given from to → (rest : List ℕ) → Stops rest
      → Prints source (Alike pair plain_pair part) (pair_text part) rest
  prints_pair part from to h rest stops =
      let equals = prints_equals (prints_whole given all part.value h.2.0 to h.2.2 rest stops) in
      prints_as (prints_then equals (prints_name given all part.name from h.0 h.1 (follow equals) refl))
      (λ tokens from to r. (
        record { name = r.1.0; value = r.2.2.0 },
        (λ i. record { name = r.1.1 i; value = r.2.2.1 i }),
        (r.0, r.1.2, (r.2.0, r.2.1, r.2.2.2)),
      ))

  item_line : (margin : List ℕ) → IsMargin margin → (part : ItemData) (from to : ℕ) → item part given from to → (rest : List ℕ) → Unit {0}
      → Prints source (Alike item plain_item part) (line margin (item_text part)) rest
  item_line margin blank part from to h rest any = prints_line margin rest blank (prints_item given all part from to h (codes "\n" ++ rest))

  -- ---- blocks

  mutual
    pub prints_block : (tree : BlockTree) (from to : ℕ) → block tree given from to → (margin : List ℕ) → IsMargin margin → (rest : List ℕ)
        → Prints source (Alike block plain_block tree) (block_text margin tree) rest
    prints_block (Braces form items actions) from to h margin blank rest =
        let inner = deeper_margin margin blank in
        let close = prints_behind margin blank (prints_any signs.CloseBrace (codes "}") rest refl (λ c cs. refl)) in
        let acts = prints_then close (prints_actions actions h.2.2.2.0 h.2.2.2.2.0 h.2.2.2.2.1 (deeper margin) inner (follow close)) in
        let word = prints_then acts (prints_node_list (deeper margin) inner form (follow acts)) in
        let list = prints_then word (prints_each given item plain_item (λ part. line (deeper margin) (item_text part)) (λ _. Unit {0})
        (item_line (deeper margin) inner) (λ part rest. tt) items h.2.0 h.2.2.0 h.2.2.1 (follow word) tt) in
        let opened = prints_then list (prints_before (codes "\n") (follow list) refl (prints_any signs.OpenBrace (codes "{") (codes "\n" ++ follow list) refl (λ c cs. refl))) in
        prints_as (prints_then opened (prints_form form (follow opened)))
        (λ tokens from to r. (
          Braces form r.2.2.1.0 r.2.2.2.2.1.0,
          (λ i. Braces form (r.2.2.1.1 i) (r.2.2.2.2.1.1 i)),
          (r.0, r.1, (r.2.0, r.2.1, (r.2.2.0, r.2.2.1.2, (r.2.2.2.0, r.2.2.2.1, (r.2.2.2.2.0, r.2.2.2.2.1.2, r.2.2.2.2.2))))),
        ))

    prints_actions : (tree : Actions) (from to : ℕ) → each_action tree given from to → (margin : List ℕ) → IsMargin margin → (rest : List ℕ)
        → Prints source (Alike each_action plain_actions tree) (actions_text margin tree) rest
    prints_actions NoActions from to h margin blank rest = prints_as (prints_nothing rest) (λ tokens from to r. (NoActions, refl, r))
    prints_actions (More first others) from to h margin blank rest =
        let behind = prints_actions others h.0 to h.2 margin blank rest in
        prints_as (prints_then behind (prints_line margin (follow behind) blank
        (prints_action first from h.0 h.1 margin blank (codes "\n" ++ follow behind) refl)))
        (λ tokens from to r. (More r.1.0 r.2.0, (λ i. More (r.1.1 i) (r.2.1 i)), (r.0, r.1.2, r.2.2)))

    prints_action : (tree : ActionTree) (from to : ℕ) → action tree given from to → (margin : List ℕ) → IsMargin margin → (rest : List ℕ) → Ends rest
        → Prints source (Alike action plain_action tree) (action_text margin tree) rest
    prints_action (Labelled name parts) from to h margin blank rest ends =
        let behind = prints_body parts h.0 to h.2 margin blank rest ends in
        prints_as (prints_then behind (prints_label name from h.0 h.1 (follow behind)))
        (λ tokens from to r. (Labelled r.1.0 r.2.0, (λ i. Labelled (r.1.1 i) (r.2.1 i)), (r.0, r.1.2, r.2.2)))

    prints_branch : (tree : BranchTree) (from to : ℕ) → branch tree given from to → (margin : List ℕ) → IsMargin margin → (rest : List ℕ)
        → Prints source (Alike branch plain_branch tree) (branch_text margin tree) rest
    prints_branch (Branch name parts) from to h margin blank rest =
        let behind = prints_block parts h.0 to h.2 margin blank rest in
        prints_as (prints_then behind (prints_label name from h.0 h.1 (follow behind)))
        (λ tokens from to r. (Branch r.1.0 r.2.0, (λ i. Branch (r.1.1 i) (r.2.1 i)), (r.0, r.1.2, r.2.2)))

    prints_guarded : (tree : GuardedTree) (from to : ℕ) → guarded tree given from to → (margin : List ℕ) → IsMargin margin → (rest : List ℕ)
        → Prints source (Alike guarded plain_guarded tree) (guarded_text margin tree) rest
    prints_guarded (Guarded test parts) from to h margin blank rest =
        let behind = prints_behind (codes " ") refl (prints_branch parts h.2.2.0 to h.2.2.2 margin blank rest) in
        let close = prints_then behind (prints_close (follow behind)) in
        let inside = prints_then close (prints_whole given all test h.0 h.2.0 h.2.1 (follow close) (refl, refl)) in
        prints_as (prints_then inside (prints_open (follow inside)))
        (λ tokens from to r. (
          Guarded r.2.1.0 r.2.2.2.0,
          (λ i. Guarded (r.2.1.1 i) (r.2.2.2.1 i)),
          (r.0, r.1, (r.2.0, r.2.1.2, (r.2.2.0, r.2.2.1, r.2.2.2.2))),
        ))

    prints_else_ifs : (tree : ElseIfs) (from to : ℕ) → else_ifs tree given from to → (margin : List ℕ) → IsMargin margin → (rest : List ℕ)
        → Prints source (Alike else_ifs plain_else_ifs tree) (else_ifs_text margin tree) rest
    prints_else_ifs NoElseIfs from to h margin blank rest = prints_as (prints_nothing rest) (λ tokens from to r. (NoElseIfs, refl, r))
    prints_else_ifs (ElseIf first others) from to h margin blank rest =
        let behind = prints_else_ifs others h.2.0 to h.2.2 margin blank rest in
        let inside = prints_behind (codes " ") refl (prints_then behind (prints_guarded first h.0 h.2.0 h.2.1 margin blank (follow behind))) in
        prints_as (prints_behind (codes " ") refl (prints_then inside (prints_keyword words.ElseIf (codes "elseif") (follow inside) refl refl)))
        (λ tokens from to r. (ElseIf r.2.1.0 r.2.2.0, (λ i. ElseIf (r.2.1.1 i) (r.2.2.1 i)), (r.0, r.1, (r.2.0, r.2.1.2, r.2.2.2))))

    prints_else : (tree : ElseTree) (from to : ℕ) → otherwise tree given from to → (margin : List ℕ) → IsMargin margin → (rest : List ℕ)
        → Prints source (Alike otherwise plain_else tree) (else_text margin tree) rest
    prints_else NoElse from to h margin blank rest = prints_as (prints_nothing rest) (λ tokens from to r. (NoElse, refl, r))
    prints_else (Else parts) from to h margin blank rest =
        let inside = prints_behind (codes " ") refl (prints_branch parts h.0 to h.2 margin blank rest) in
        prints_as (prints_behind (codes " ") refl (prints_then inside (prints_keyword words.Else (codes "else") (follow inside) refl refl)))
        (λ tokens from to r. (Else r.2.0, ap (λ b. Else b) r.2.1, (r.0, r.1, r.2.2)))

    prints_body : (tree : BodyTree) (from to : ℕ) → body tree given from to → (margin : List ℕ) → IsMargin margin → (rest : List ℕ) → Ends rest
        → Prints source (Alike body plain_body tree) (body_text margin tree) rest
    prints_body (Inner parts) from to h margin blank rest ends =
        prints_as (prints_block parts from to h margin blank rest) (λ tokens from to r. (Inner r.0, ap (λ b. Inner b) r.1, r.2))
    prints_body (Assign written value) from to h margin blank rest ends =
        let end = prints_semicolon rest in
        let equals = prints_equals (prints_then end (prints_whole given all value h.2.0 h.2.2.0 h.2.2.1 (follow end) (refl, refl))) in
        prints_as (prints_then equals (prints_target written from h.0 h.1 (follow equals) refl))
        (λ tokens from to r. (
          Assign r.1.0 r.2.2.1.0,
          (λ i. Assign (r.1.1 i) (r.2.2.1.1 i)),
          (r.0, r.1.2, (r.2.0, r.2.1, (r.2.2.0, r.2.2.1.2, r.2.2.2))),
        ))
    prints_body (CallInto written parts) from to h margin blank rest ends =
        let end = prints_semicolon rest in
        let equals = prints_equals (prints_then end (prints_call parts h.2.0 h.2.2.0 h.2.2.1 (follow end))) in
        prints_as (prints_then equals (prints_target written from h.0 h.1 (follow equals) refl))
        (λ tokens from to r. (
          CallInto r.1.0 r.2.2.1.0,
          (λ i. CallInto (r.1.1 i) (r.2.2.1.1 i)),
          (r.0, r.1.2, (r.2.0, r.2.1, (r.2.2.0, r.2.2.1.2, r.2.2.2))),
        ))
    prints_body (Call parts) from to h margin blank rest ends =
        let end = prints_semicolon rest in
        prints_as (prints_then end (prints_call parts from h.0 h.1 (follow end)))
        (λ tokens from to r. (Call r.1.0, ap (λ c. Call c) r.1.1, (r.0, r.1.2, r.2)))
    prints_body (Update token pairs) from to h margin blank rest ends =
        let end = prints_semicolon rest in
        let list = prints_behind (codes " ") refl (prints_then end
        (prints_commas given pair plain_pair pair_text prints_pair pairs h.2.0 h.2.2.0 h.2.2.1 (follow end) (refl, refl))) in
        prints_as (prints_then list (prints_keyword words.Update (codes "Update") (follow list) refl refl))
        (λ tokens from to r. (Update from r.2.1.0, ap (λ ps. Update 0 ps) r.2.1.1, (r.0, (refl, r.1), (r.0, inl refl, (r.2.0, r.2.1.2, r.2.2)))))
    prints_body (If first others last) from to h margin blank rest ends =
        let end = prints_behind (codes " ") refl (prints_keyword words.EndIf (codes "endif") rest refl ends) in
        let else_part = prints_then end (prints_else last h.2.2.0 h.2.2.2.0 h.2.2.2.1 margin blank (follow end)) in
        let chain = prints_then else_part (prints_else_ifs others h.2.0 h.2.2.0 h.2.2.1 margin blank (follow else_part)) in
        let test = prints_behind (codes " ") refl (prints_then chain (prints_guarded first h.0 h.2.0 h.2.1 margin blank (follow chain))) in
        prints_as (prints_then test (prints_keyword words.If (codes "if") (follow test) refl refl))
        (λ tokens from to r. (
          If r.2.1.0 r.2.2.1.0 r.2.2.2.1.0,
          (λ i. If (r.2.1.1 i) (r.2.2.1.1 i) (r.2.2.2.1.1 i)),
          (r.0, r.1, (r.2.0, r.2.1.2, (r.2.2.0, r.2.2.1.2, (r.2.2.2.0, r.2.2.2.1.2, inr r.2.2.2.2)))),
        ))
    prints_body (While parts) from to h margin blank rest ends =
        let inside = prints_behind (codes " ") refl (prints_guarded parts h.0 to h.2 margin blank rest) in
        prints_as (prints_then inside (prints_keyword words.While (codes "while") (follow inside) refl refl))
        (λ tokens from to r. (While r.2.0, ap (λ g. While g) r.2.1, (r.0, r.1, r.2.2)))
    prints_body (For variable first test step parts) from to h margin blank rest ends =
        let count = h.2.2.2.2.2 in
        let tail = count.2.2 in
        let behind = prints_behind (codes " ") refl (prints_branch parts tail.2.2.2.0 to tail.2.2.2.2 margin blank rest) in
        let close = prints_then behind (prints_close (follow behind)) in
        let steps = prints_behind (codes " ") refl (prints_then close (prints_whole given all step tail.2.0 tail.2.2.0 tail.2.2.1 (follow close) (refl, refl))) in
        let second = prints_then steps (prints_semicolon (follow steps)) in
        let tests = prints_behind (codes " ") refl (prints_then second (prints_whole given all test count.2.0 tail.0 tail.1 (follow second) (refl, refl))) in
        let end = prints_then tests (prints_semicolon (follow tests)) in
        let equals = prints_equals (prints_then end (prints_signed given all first h.2.2.2.2.0 count.0 count.1 (follow end) (refl, refl))) in
        let name = prints_behind (codes " ") refl (prints_then equals (prints_name given all variable h.2.2.0 h.2.2.2.0 h.2.2.2.1 (follow equals) refl)) in
        let type_part = prints_then name (prints_keyword words.Integer (codes "Integer") (follow name) refl refl) in
        let opened = prints_behind (codes " ") refl (prints_then type_part (prints_open (follow type_part))) in
        prints_as (prints_then opened (prints_keyword words.For (codes "for") (follow opened) refl refl))
        (λ tokens from to r.
        let x = r.2.2.2.2.2.2.2 in (
          For r.2.2.2.1.0 first x.1.0 x.2.2.1.0 x.2.2.2.2.0,
          (λ i. For (r.2.2.2.1.1 i) first (x.1.1 i) (x.2.2.1.1 i) (x.2.2.2.2.1 i)),
          (
            r.0,
            r.1,
            (
              r.2.0,
              r.2.1,
              (
                r.2.2.0,
                r.2.2.1,
                (
                  r.2.2.2.0,
                  r.2.2.2.1.2,
                  (
                    r.2.2.2.2.0,
                    r.2.2.2.2.1,
                    (
                      r.2.2.2.2.2.0,
                      r.2.2.2.2.2.1,
                      (
                        r.2.2.2.2.2.2.0,
                        r.2.2.2.2.2.2.1,
                        (x.0, x.1.2, (x.2.0, x.2.1, (x.2.2.0, x.2.2.1.2, (x.2.2.2.0, x.2.2.2.1, x.2.2.2.2.2)))),
                      ),
                    ),
                  ),
                ),
              ),
            ),
          ),
        ))
