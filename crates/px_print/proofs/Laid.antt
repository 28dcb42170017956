-- Texts that are appended one behind another are those of the layout.
use Rattle.std.proofs.Common.{◌≡◌, ℕ, ℤ, ◌-◌, List, ◌∷◌, ◌++◌, codes, map, take, length, Option, option_map, Global, sym, ap, ◌∙◌, append_assoc}
use Rattle.std.specs.Fmt.{signed_decimal}
use Rattle.std.specs.List.{flat_map}
use Rattle.std.specs.declared.vec.Vec.{Vec}
use Rattle.std.proofs.Math.Seq.{take-append_seam}
use Rattle.px_value.proofs.General.{joined_five}
use Rattle.px_syntax.specs.declared.block.Action.{Action}
use Rattle.px_syntax.specs.declared.block.Block.{Block, out-Block}
use Rattle.px_syntax.specs.declared.block.Body.{Body}
use Rattle.px_syntax.specs.declared.block.Body.TheVariants as bodies
use Rattle.px_syntax.specs.declared.block.Branch.{Branch}
use Rattle.px_syntax.specs.declared.block.Guarded.{Guarded}
use Rattle.px_syntax.specs.declared.block.Item.{Item}
use Rattle.px_syntax.specs.declared.expr.Identifier.{Identifier}
use Rattle.px_syntax.specs.declared.expr.SurfaceExpr.{SurfaceExpr}
use Rattle.px_syntax.specs.declared.plan.Parameter.{Parameter}
use Rattle.px_syntax.specs.Block.{action_of, actions_in_turn, block_of, body_of, branch_of, else_ifs_in_turn, else_of, guarded_of, item_data}
use Rattle.px_syntax.specs.Expr.{term_of}
use Rattle.px_syntax.proofs.Trees as trees
use Rattle.px_print.specs.Texts.{◌then◌}
use Rattle.px_print.specs.BlockLayout.{deeper, line, item_text, form_text, node_list_text, block_text, actions_text, branch_text, guarded_text, else_ifs_text, else_text, body_text}
use Rattle.px_print.specs.ExprLayout.{term_text}
use Rattle.px_print.specs.Layout.{parameter_text, parameters_text}

-- ---- texts alone

joined_six : (out a b c d e f o1 o2 o3 o4 o5 new : List ℕ) → o1 ≡ out ++ a → o2 ≡ o1 ++ b → o3 ≡ o2 ++ c → o4 ≡ o3 ++ d
    → o5 ≡ o4 ++ e → new ≡ o5 ++ f → new ≡ out ++ (a then b then c then d then e then f)
joined_six out a b c d e f o1 o2 o3 o4 o5 new e1 e2 e3 e4 e5 e6 = rw (e6, e5, e4, e3, e2, e1) (simp append_assoc)

joined_four : (out a b c d o1 o2 o3 new : List ℕ) → o1 ≡ out ++ a → o2 ≡ o1 ++ b → o3 ≡ o2 ++ c → new ≡ o3 ++ d
    → new ≡ out ++ (a then b then c then d)
joined_four out a b c d o1 o2 o3 new e1 e2 e3 e4 = rw (e4, e3, e2, e1) (simp append_assoc)

joined_two : (out a b o1 new : List ℕ) → o1 ≡ out ++ a → new ≡ o1 ++ b → new ≡ out ++ (a ++ b)
joined_two out a b o1 new e1 e2 = rw (e2, e1) (simp append_assoc)

-- ---- parameters, and what a `for` counts

pub parameters_laid : (parameters rest : List Parameter) (first : Parameter) (out o1 o2 o3 new : List ℕ)
    → parameters ≡ first ∷ rest → o1 ≡ out ++ codes "(" → o2 ≡ o1 ++ parameter_text first
    → o3 ≡ o2 ++ flat_map (λ parameter. codes ", " ++ parameter_text parameter) rest → new ≡ o3 ++ codes ")"
    → new ≡ out ++ parameters_text parameters
parameters_laid parameters rest first out o1 o2 o3 new is e1 e2 e3 e4 =
    let others = flat_map (λ (parameter : Parameter). codes ", " ++ parameter_text parameter) rest in
    joined_four out (codes "(") (parameter_text first) others (codes ")") o1 o2 o3 new e1 e2 e3 e4
    ∙ ap (λ text. out ++ (codes "(" ++ text)) (sym (append_assoc (parameter_text first) others (codes ")")))
    ∙ ap (λ parameters. out ++ parameters_text parameters) (sym is)

pub counter_laid : (name given first digits test step out o1 o2 o3 o4 o5 new : List ℕ) → given ≡ name → digits ≡ first
    → o1 ≡ out ++ (codes "for (Integer " then given then codes " = ") → o2 ≡ o1 ++ (digits then codes "; ") → o3 ≡ o2 ++ test
    → o4 ≡ o3 ++ codes "; " → o5 ≡ o4 ++ step → new ≡ o5 ++ codes ") "
    → new ≡ out ++ (codes "for (Integer " then name then codes " = " then first then codes "; " then test then codes "; " then step then codes ") ")
counter_laid name given first digits test step out o1 o2 o3 o4 o5 new same written e1 e2 e3 e4 e5 e6 =
    joined_six out (codes "for (Integer " then name then codes " = ") (first then codes "; ") test (codes "; ") step (codes ") ") o1 o2 o3 o4 o5 new
    (e1 ∙ ap (λ n. out ++ (codes "for (Integer " then n then codes " = ")) same) (e2 ∙ ap (λ n. o1 ++ (n then codes "; ")) written) e3 e4 e5 e6
    ∙ ap (λ text. out ++ (codes "for (Integer " ++ text))
    (append_assoc name (codes " = ") _ ∙ ap (λ text. name ++ (codes " = " ++ text)) (append_assoc first (codes "; ") _))

-- ---- blocks

pub block_laid : (block : Block) (margin m1 m2 m3 left word out o1 o2 o3 o4 o5 new : List ℕ) (items : List Item) (actions : List Action)
    → word ≡ form_text (out-Block block).form → m1 ≡ deeper margin → m2 ≡ deeper margin → m3 ≡ deeper margin → left ≡ margin
    → items ≡ (out-Block block).items.items → actions ≡ (out-Block block).actions.items
    → o1 ≡ out ++ (word then codes "{\n")
    → o2 ≡ o1 ++ flat_map (λ item. line m1 (item_text item)) (map item_data items)
    → o3 ≡ o2 ++ node_list_text m2 (out-Block block).form
    → o4 ≡ o3 ++ actions_text m3 (actions_in_turn (map action_of actions))
    → o5 ≡ o4 ++ left → new ≡ o5 ++ codes "}"
    → new ≡ out ++ block_text margin (block_of block)
block_laid block margin m1 m2 m3 left word out o1 o2 o3 o4 o5 new items actions word_is is1 is2 is3 left_is items_are actions_are e1 e2 e3 e4 e5 e6 =
    let form = (out-Block block).form in
    let listed = flat_map (λ item. line (deeper margin) (item_text item)) (map item_data (out-Block block).items.items) in
    let inside = actions_text (deeper margin) (actions_in_turn (map action_of (out-Block block).actions.items)) in
    joined_six out (form_text form then codes "{\n") listed (node_list_text (deeper margin) form) inside margin (codes "}") o1 o2 o3 o4 o5 new
    (e1 ∙ ap (λ w. out ++ (w then codes "{\n")) word_is)
    (e2 ∙ (λ i. o1 ++ flat_map (λ item. line (is1 i) (item_text item)) (map item_data (items_are i))))
    (e3 ∙ ap (λ m. o2 ++ node_list_text m form) is2)
    (e4 ∙ (λ i. o3 ++ actions_text (is3 i) (actions_in_turn (map action_of (actions_are i)))))
    (e5 ∙ ap (λ m. o4 ++ m) left_is) e6
    ∙ ap (λ text. out ++ text) (append_assoc (form_text form) (codes "{\n") (listed then node_list_text (deeper margin) form then inside then margin then codes "}"))
    ∙ ap (λ tree. out ++ block_text margin tree) (sym (trees.block_is block))

-- the margin as it was before it was made deeper
pub margin_back : (margin inner left : List ℕ) (outer : ℕ) → outer ≡ length margin → inner ≡ margin ++ codes "  " → left ≡ take outer inner
    → left ≡ margin
margin_back margin inner left outer outer_is inner_is left_is =
    left_is ∙ ap (λ n. take n inner) outer_is ∙ ap (take (length margin)) inner_is ∙ take-append_seam margin (codes "  ")

pub if_laid : (body : Body) (first : Guarded) (others : Vec Guarded Global) (otherwise : Option Branch) (listed : List Guarded)
    (margin m2 m3 out o1 o2 o3 o4 new : List ℕ)
    → body ≡ bodies.If first others otherwise → listed ≡ others.items → m2 ≡ margin → m3 ≡ m2
    → o1 ≡ out ++ codes "if " → o2 ≡ o1 ++ guarded_text margin (guarded_of first)
    → o3 ≡ o2 ++ else_ifs_text m2 (else_ifs_in_turn (map guarded_of listed))
    → o4 ≡ o3 ++ else_text m3 (else_of (option_map branch_of otherwise)) → new ≡ o4 ++ codes " endif"
    → new ≡ out ++ body_text margin (body_of body)
if_laid body first others otherwise listed margin m2 m3 out o1 o2 o3 o4 new is listed_is second third e1 e2 e3 e4 e5 =
    joined_five out (codes "if ") (guarded_text margin (guarded_of first)) (else_ifs_text margin (else_ifs_in_turn (map guarded_of others.items)))
    (else_text margin (else_of (option_map branch_of otherwise))) (codes " endif") o1 o2 o3 o4 new e1 e2
    (e3 ∙ ap (λ m. o2 ++ else_ifs_text m (else_ifs_in_turn (map guarded_of listed))) second
    ∙ ap (λ (left : List Guarded). o2 ++ else_ifs_text margin (else_ifs_in_turn (map guarded_of left))) listed_is)
    (e4 ∙ ap (λ m. o3 ++ else_text m (else_of (option_map branch_of otherwise))) (third ∙ second)) e5
    ∙ ap (λ tree. out ++ body_text margin tree) (sym (ap body_of is ∙ trees.if_chain first others otherwise))

pub while_laid : (body : Body) (guarded : Guarded) (margin out o1 new : List ℕ) → body ≡ bodies.While guarded
    → o1 ≡ out ++ codes "while " → new ≡ o1 ++ guarded_text margin (guarded_of guarded) → new ≡ out ++ body_text margin (body_of body)
while_laid body guarded margin out o1 new is e1 e2 =
    joined_two out (codes "while ") (guarded_text margin (guarded_of guarded)) o1 new e1 e2
    ∙ ap (λ tree. out ++ body_text margin tree) (sym (ap body_of is ∙ trees.while_loop guarded))

pub for_laid : (body : Body) (variable : Identifier) (first : ℤ) (test step : SurfaceExpr) (branch : Branch) (margin out o1 new : List ℕ)
    → body ≡ bodies.For variable first test step branch
    → o1 ≡ out ++ (codes "for (Integer " then variable.name then codes " = " then signed_decimal first then codes "; " then term_text (term_of test)
    then codes "; " then term_text (term_of step) then codes ") ")
    → new ≡ o1 ++ branch_text margin (branch_of branch) → new ≡ out ++ body_text margin (body_of body)
for_laid body variable first test step branch margin out o1 new is e1 e2 =
    let t = term_text (term_of test) in
    let u = term_text (term_of step) in
    let b = branch_text margin (branch_of branch) in
    e2 ∙ ap (λ front. front ++ b) e1 ∙ append_assoc out _ b
    ∙ ap (λ text. out ++ (codes "for (Integer " ++ text)) (regrouped variable.name (signed_decimal first) t u b)
    ∙ ap (λ tree. out ++ body_text margin tree) (sym (ap body_of is ∙ trees.for_loop variable first test step branch))
  where
    regrouped : (name digits test step rest : List ℕ)
        → (name then codes " = " then digits then codes "; " then test then codes "; " then step then codes ") ") ++ rest
        ≡ name then codes " = " then digits then codes "; " then test then codes "; " then step then codes ") " then rest
    regrouped name digits test step rest = simp append_assoc
