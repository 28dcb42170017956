-- What names mean by the kept names and by the definitions is the same.
use Rattle.std.proofs.Common.{◌≡◌, ℕ, ◌-◌, Bool, true, false, cond, List, [], ◌∷◌, ◌++◌, map, length, drop, find}
use Rattle.std.proofs.Common.{Option, Some, None, option_map, refl, sym, ap, ◌∙◌, arith, append_assoc, length-append}
use Rattle.std.specs.Str.{bytes_eq}
use Rattle.std.proofs.lemmas.Iterator.Adapters.{option_map_id}
use Rattle.std.proofs.lemmas.List.{map-append}
use Rattle.std.proofs.lemmas.List.Prefix.{end_rest}
use Rattle.std.proofs.lemmas.Map.Made.{lookup-map_values}
use Rattle.std.proofs.lemmas.Grind.{flat_map-append}
use Rattle.px_value.proofs.General.{lookup-map}
use Rattle.px_syntax.specs.Scope.{Global, Head, Node, Visible, is_named, searched, declared}
use Rattle.px_check.specs.Globals.{callable_data, callables_data, by_name}
use Rattle.px_check.specs.Nodes.{named_head, named_heads, names_of}
use Rattle.px_check.specs.Scope.{visibles, type_seen}
use Rattle.px_check.specs.Scoped.{meaning_of, IsOver}
use Rattle.px_check.specs.declared.globals.Callable.{Callable}
use Rattle.px_check.specs.declared.scope.VariableType.{VariableType}

-- ---- lists

pub over_more : {T : Type 0} (one : List ℕ × T) (named more : List (List ℕ × T)) → IsOver (one ∷ named) more
    → IsOver named more
over_more one named more over = (over.0 ++ one ∷ [], over.1 ∙ sym (append_assoc over.0 (one ∷ []) named))

-- ---- variables

-- what is kept of a variable is what is seen of it
seen_again : (named : List (List ℕ × VariableType))
    → map (λ (variable : Visible). (variable.name, type_seen variable)) (visibles named) ≡ named
seen_again [] = refl
seen_again (one ∷ named) = ap (λ rest. one ∷ rest) (seen_again named)

pub variable_meant : (name : List ℕ) (named : List (List ℕ × VariableType))
    → meaning_of name named ≡ option_map type_seen (find (λ variable. bytes_eq name variable.name) (visibles named))
variable_meant name named =
    ap (meaning_of name) (sym (seen_again named)) ∙ lookup-map (bytes_eq name) (λ (variable : Visible). variable.name) type_seen (visibles named)

-- ---- nodes

head_by : (name label : List ℕ) (is_command same : Bool) (rest : List (List ℕ × Bool)) (heads : List Head)
    → meaning_of name rest ≡ option_map (λ head. head.is_command) (find (is_named name) heads)
    → cond same (Some is_command) (meaning_of name rest)
    ≡ option_map (λ (head : Head). head.is_command)
    (cond same (Some (record { label = Some label; is_command = is_command })) (find (is_named name) heads))
head_by name label is_command true rest heads is = refl
head_by name label is_command false rest heads is = is

head_before : (name : List ℕ) (label : Option (List ℕ)) (is_command : Bool) (heads : List Head)
    → meaning_of name (named_heads heads) ≡ option_map (λ head. head.is_command) (find (is_named name) heads)
    → meaning_of name (named_heads (record { label = label; is_command = is_command } ∷ heads))
    ≡ option_map (λ head. head.is_command) (find (is_named name) (record { label = label; is_command = is_command } ∷ heads))
head_before name None is_command heads is = is
head_before name (Some label) is_command heads is =
    head_by name label is_command (bytes_eq name label) (named_heads heads) heads is

pub head_meant : (name : List ℕ) (heads : List Head)
    → meaning_of name (named_heads heads) ≡ option_map (λ head. head.is_command) (find (is_named name) heads)
head_meant name [] = refl
head_meant name (head ∷ heads) = head_before name head.label head.is_command heads (head_meant name heads)

-- a node more
pub names_more : (node : Node) (around : List Node)
    → named_heads (node.children ++ node.head ∷ []) ++ names_of around ≡ names_of (node ∷ around)
names_more node around = sym (flat_map-append named_head (node.children ++ node.head ∷ []) (searched around))

-- the names of the nodes round one are left where its own are gone
pub names_left : (names : List (List ℕ × Bool)) (node : Node) (around : List Node) (outer : ℕ)
    → names ≡ names_of (node ∷ around)
    → outer ≡ length names - length (named_heads (node.children ++ node.head ∷ []))
    → drop (length names - outer) names ≡ names_of around
names_left names node around outer is outer_is =
    let inner = named_heads (node.children ++ node.head ∷ []) in
    let rest = names_of around in
    let whole : names ≡ inner ++ rest = is ∙ sym (names_more node around) in
    let counts : outer ≡ length rest = omega (arith, ap length whole, length-append inner rest) in
    ap (λ count. drop (length names - count) names) counts ∙ end_rest names rest inner whole

-- so many names without those of a node and its children
pub without_own : (children : List Head) (head : Head) (names : List (List ℕ × Bool)) (label : Option (List ℕ))
    (all rest : ℕ) → head.label ≡ label → names ≡ named_heads children → rest ≡ all - length names
    → rest - length (named_heads (record { label = label; is_command = head.is_command } ∷ []))
    ≡ all - length (named_heads (children ++ head ∷ []))
without_own children head names label all rest label_is names_is rest_is =
    let own : List Head = head ∷ [] in
    let same : length (named_heads (record { label = label; is_command = head.is_command } ∷ [])) ≡ length (named_heads own) =
    ap (λ label. length (named_heads (record { label = label; is_command = head.is_command } ∷ []))) (sym label_is) in
    omega (
      arith,
      same,
      ap length names_is,
      ap length (flat_map-append named_head children own),
      length-append (named_heads children) (named_heads own),
    )

pub without_none : (children : List Head) (head : Head) (names : List (List ℕ × Bool)) (all rest : ℕ)
    → head.label ≡ None → names ≡ named_heads children → rest ≡ all - length names
    → rest ≡ all - length (named_heads (children ++ head ∷ []))
without_none children head names all rest label_is names_is rest_is =
    let own = without_own children head names None all rest label_is names_is rest_is in
    omega (arith, own)

-- ---- declarations

pub callable_meant : (name : List ℕ) (named : List (List ℕ × Callable)) (globals : List Global)
    → callables_data named ≡ by_name globals
    → option_map callable_data (meaning_of name named) ≡ declared globals name
callable_meant name named globals is =
    sym (lookup-map_values callable_data (bytes_eq name) named)
    ∙ ap (meaning_of name) is
    ∙ lookup-map (bytes_eq name) (λ (known : Global). known.name.name) (λ known. known) globals
    ∙ option_map_id (declared globals name)

-- the invariant of the walk from the last callable to the first: what is named, behind the rest
pub callable_more : (all : List (List ℕ × Global)) (rest others : List Callable) (first : Callable)
    (named more : List (List ℕ × Global))
    → rest ≡ others ++ first ∷ []
    → more ≡ by_name (callable_data first ∷ []) ++ named
    → by_name (map callable_data rest) ++ named ≡ all
    → by_name (map callable_data others) ++ more ≡ all
callable_more all rest others first named more split more_is invariant =
    let globals = map callable_data others in
    let own = callable_data first ∷ [] in
    ap (λ more. by_name globals ++ more) more_is
    ∙ sym (append_assoc (by_name globals) (by_name own) named)
    ∙ ap (λ front. front ++ named) (sym (map-append (λ (known : Global). (known.name.name, known)) globals own))
    ∙ ap (λ globals. by_name globals ++ named) (sym (map-append callable_data others (first ∷ [])))
    ∙ ap (λ rest. by_name (map callable_data rest) ++ named) (sym split)
    ∙ invariant
