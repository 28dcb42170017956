-- Bytes have one answer: at most one plan, or one refusal.
use Rattle.std.proofs.Common.{◌≡◌, ◌≢◌, ℕ, List, [], ◌∷◌, Some, None, true, false, refl, sym, ap, subst, ◌∙◌}
use Rattle.std.specs.List.{slice_get}
use Rattle.std.specs.Str.{is_utf8}
use Rattle.std.proofs.lemmas.Bool.{both_ways}
use Rattle.std.proofs.lemmas.Str.{utf8_valid_len-IsValidUpTo}
use Rattle.px_lex.specs.declared.fault.LexFault.{LexFault}
use Rattle.px_lex.specs.declared.fault.LexFault.TheVariants as lex_faults
use Rattle.px_lex.specs.declared.token.Token.{Token}
use Rattle.px_lex.specs.Lexer.{FirstFault}
use Rattle.px_lex.proofs.Unique.{one_way, no_fault, one_fault}
use Rattle.px_syntax.specs.declared.fault.CheckFault.{CheckFault}
use Rattle.px_syntax.specs.declared.fault.CheckFault.TheVariants as check_faults
use Rattle.px_syntax.specs.declared.fault.ExpandFault.{ExpandFault}
use Rattle.px_syntax.specs.declared.fault.ExpandFault.TheVariants as expand_faults
use Rattle.px_syntax.specs.declared.fault.ParseFault.{ParseFault}
use Rattle.px_syntax.specs.declared.fault.ParseFault.TheVariants as parse_faults
use Rattle.px_syntax.specs.declared.fault.PlanFault.{PlanFault}
use Rattle.px_syntax.specs.declared.fault.PlanFault.TheVariants as answers
use Rattle.px_syntax.specs.Fault.{Fault, number_of}
use Rattle.px_syntax.specs.Plan.{PlanTree}
use Rattle.px_syntax.specs.PlanFaults.{faults}
use Rattle.px_core.specs.Plan.{Tree}
use Rattle.px_plan_parse.specs.Verdict as parsing
use Rattle.px_plan_parse.proofs.Plans.{one_place, only_memory}
use Rattle.px_check.specs.Checked.{IsFirst}
use Rattle.px_expand.specs.Bound.{is_too_large}
use Rattle.px_expand.specs.Core.{core}
use Rattle.px_expand.specs.Verdict as expanding
use Rattle.px_compile.specs.Compiled.{IsSplit, IsSpelled, IsCompiled, IsRefused}

-- ---- what the stages find is one

one_split : (bytes : List ℕ) (a b : List Token) → IsSplit bytes a → IsSplit bytes b → a ≡ b
one_split bytes a b s t = one_way bytes a b s.split t.split

pub one_tree : (bytes : List ℕ) (a b : PlanTree) → IsSpelled bytes a → IsSpelled bytes b → a ≡ b
one_tree bytes a b s t =
    let same = one_split bytes s.tokens t.tokens s.split t.split in
    t.spelled.only a (subst (λ (tokens : List Token). parsing.IsPlan tokens a) same s.spelled).spelled

pub one_plan : (bytes : List ℕ) (a b : Tree) → IsCompiled bytes a → IsCompiled bytes b → a ≡ b
one_plan bytes a b s t = s.expanded ∙ ap core (one_tree bytes s.tree t.tree s.spelled t.spelled) ∙ sym t.expanded

-- ---- what one stage refuses no later stage takes

no_split :
    (bytes : List ℕ) (fault : LexFault) (tokens : List Token) → fault ≢ lex_faults.NoMemory → FirstFault bytes fault
    → IsSplit bytes tokens → ⊥
no_split bytes fault tokens some first split = no_fault bytes tokens fault split.split some first

no_tree :
    (bytes : List ℕ) (tokens : List Token) (fault : ParseFault) (tree : PlanTree) → fault ≢ parse_faults.NoMemory
    → IsSplit bytes tokens → parsing.IsRefused tokens fault → IsSpelled bytes tree → ⊥
no_tree bytes tokens fault tree some split refused spelled =
    let same = one_split bytes tokens spelled.tokens split spelled.split in
    some (only_memory spelled.tokens tree spelled.spelled.spelled spelled.shallow fault
    (subst (λ (other : List Token). parsing.IsRefused other fault) same refused))

no_first :
    (found : List Fault) (fault : CheckFault) → fault ≢ check_faults.NoMemory → IsFirst found fault → found ≡ [] → ⊥
no_first found (check_faults.Fault kind token) some first none =
    let both : None ≡ Some first.0 = sym (ap (λ (all : List Fault). slice_get all 0) none) ∙ first.1 in cc
no_first found check_faults.NoMemory some first none = absurd (some refl)

no_faults :
    (bytes : List ℕ) (tree other : PlanTree) (fault : CheckFault) → fault ≢ check_faults.NoMemory
    → IsSpelled bytes tree → IsFirst (faults tree) fault → IsSpelled bytes other → faults other ≡ [] → ⊥
no_faults bytes tree other fault some spelled first again none =
    no_first (faults tree) fault some first (ap faults (one_tree bytes tree other spelled again) ∙ none)

not_large :
    (tree : PlanTree) (fault : ExpandFault) → fault ≢ expand_faults.NoMemory → expanding.IsRefused tree fault
    → is_too_large (core tree) ≡ false → ⊥
not_large tree (expand_faults.TooMany nodes) some refused within =
    let both : true ≡ false = sym refused.0 ∙ within in cc
not_large tree expand_faults.NoMemory some refused within = absurd (some refl)

-- bytes that compile are refused for nothing but want of memory
pub no_refusal :
    (bytes : List ℕ) (plan : Tree) (fault : PlanFault) → fault ≢ answers.NoMemory → IsCompiled bytes plan
    → IsRefused bytes fault → ⊥
no_refusal bytes plan (answers.NotText at) some made refused = both_ways (is_utf8 bytes) refused.0 made.spelled.split.text
no_refusal bytes plan (answers.Lex fault) some made refused =
    no_split bytes fault made.spelled.tokens refused.0 refused.2 made.spelled.split
no_refusal bytes plan (answers.Parse fault) some made refused =
    no_tree bytes refused.0 fault made.tree refused.1 refused.2 refused.3 made.spelled
no_refusal bytes plan (answers.Check fault) some made refused =
    no_faults bytes refused.0 made.tree fault refused.1 refused.2 refused.3 made.spelled made.faultless
no_refusal bytes plan (answers.Expand fault) some made refused =
    let same = one_tree bytes refused.0 made.tree refused.2 made.spelled in
    not_large made.tree fault refused.1
    (subst (λ (tree : PlanTree). expanding.IsRefused tree fault) same refused.4)
    made.within
no_refusal bytes plan answers.NoMemory some made refused = absurd (some refl)

-- ---- two refusals of one stage

same_parse :
    (tokens : List Token) (f g : ParseFault) → f ≢ parse_faults.NoMemory → g ≢ parse_faults.NoMemory
    → parsing.IsRefused tokens f → parsing.IsRefused tokens g
    → f ≡ g
same_parse tokens (parse_faults.Deep m) (parse_faults.Deep n) hf hg a b =
    let both : m ∷ a.0 ≡ n ∷ b.0 = sym a.1 ∙ b.1 in
    let same : m ≡ n = (cc) in
    ap (λ token. parse_faults.Deep token) same
same_parse tokens (parse_faults.Deep m) (parse_faults.SyntaxFault n) hf hg a b =
    let both : m ∷ a.0 ≡ [] = sym a.1 ∙ b.0 in cc
same_parse tokens (parse_faults.SyntaxFault m) (parse_faults.Deep n) hf hg a b =
    let both : n ∷ b.0 ≡ [] = sym b.1 ∙ a.0 in cc
same_parse tokens (parse_faults.SyntaxFault m) (parse_faults.SyntaxFault n) hf hg a b =
    ap (λ token. parse_faults.SyntaxFault token) (one_place tokens m n a.1 b.1)
same_parse tokens parse_faults.NoMemory g hf hg a b = absurd (hf refl)
same_parse tokens f parse_faults.NoMemory hf hg a b = absurd (hg refl)

same_check :
    (found : List Fault) (f g : CheckFault) → f ≢ check_faults.NoMemory → g ≢ check_faults.NoMemory
    → IsFirst found f → IsFirst found g → f ≡ g
same_check found (check_faults.Fault kind token) (check_faults.Fault other place) hf hg a b =
    let both : Some a.0 ≡ Some b.0 = sym a.1 ∙ b.1 in
    let same : a.0 ≡ b.0 = (cc) in
    ap (λ number. check_faults.Fault number token) (a.2 ∙ ap (λ (fault : Fault). number_of fault.kind) same ∙ sym b.2)
    ∙ ap (λ at. check_faults.Fault other at) (a.3 ∙ ap (λ (fault : Fault). fault.token) same ∙ sym b.3)
same_check found check_faults.NoMemory g hf hg a b = absurd (hf refl)
same_check found f check_faults.NoMemory hf hg a b = absurd (hg refl)

same_expand :
    (tree : PlanTree) (f g : ExpandFault) → f ≢ expand_faults.NoMemory → g ≢ expand_faults.NoMemory
    → expanding.IsRefused tree f → expanding.IsRefused tree g → f ≡ g
same_expand tree (expand_faults.TooMany m) (expand_faults.TooMany n) hf hg a b =
    ap (λ nodes. expand_faults.TooMany nodes) (a.1 ∙ sym b.1)
same_expand tree expand_faults.NoMemory g hf hg a b = absurd (hf refl)
same_expand tree f expand_faults.NoMemory hf hg a b = absurd (hg refl)

-- two refusals are one
pub one_refusal :
    (bytes : List ℕ) (f g : PlanFault) → f ≢ answers.NoMemory → g ≢ answers.NoMemory
    → IsRefused bytes f → IsRefused bytes g → f ≡ g
one_refusal bytes (answers.NotText m) (answers.NotText n) hf hg a b =
    ap (λ at. answers.NotText at)
    (sym (utf8_valid_len-IsValidUpTo bytes m a.1) ∙ utf8_valid_len-IsValidUpTo bytes n b.1)
one_refusal bytes (answers.NotText m) (answers.Lex g) hf hg a b = absurd (both_ways (is_utf8 bytes) a.0 b.1)
one_refusal bytes (answers.NotText m) (answers.Parse g) hf hg a b = absurd (both_ways (is_utf8 bytes) a.0 b.2.text)
one_refusal bytes (answers.NotText m) (answers.Check g) hf hg a b = absurd (both_ways (is_utf8 bytes) a.0 b.2.split.text)
one_refusal bytes (answers.NotText m) (answers.Expand g) hf hg a b = absurd (both_ways (is_utf8 bytes) a.0 b.2.split.text)
one_refusal bytes (answers.Lex f) (answers.NotText n) hf hg a b = absurd (both_ways (is_utf8 bytes) b.0 a.1)
one_refusal bytes (answers.Lex f) (answers.Lex g) hf hg a b =
    ap (λ fault. answers.Lex fault) (one_fault bytes f g a.0 b.0 a.2 b.2)
one_refusal bytes (answers.Lex f) (answers.Parse g) hf hg a b = absurd (no_split bytes f b.0 a.0 a.2 b.2)
one_refusal bytes (answers.Lex f) (answers.Check g) hf hg a b = absurd (no_split bytes f b.2.tokens a.0 a.2 b.2.split)
one_refusal bytes (answers.Lex f) (answers.Expand g) hf hg a b = absurd (no_split bytes f b.2.tokens a.0 a.2 b.2.split)
one_refusal bytes (answers.Parse f) (answers.NotText n) hf hg a b = absurd (both_ways (is_utf8 bytes) b.0 a.2.text)
one_refusal bytes (answers.Parse f) (answers.Lex g) hf hg a b = absurd (no_split bytes g a.0 b.0 b.2 a.2)
one_refusal bytes (answers.Parse f) (answers.Parse g) hf hg a b =
    ap (λ fault. answers.Parse fault) (same_parse b.0 f g a.1 b.1
    (subst (λ (tokens : List Token). parsing.IsRefused tokens f) (one_split bytes a.0 b.0 a.2 b.2) a.3) b.3)
one_refusal bytes (answers.Parse f) (answers.Check g) hf hg a b = absurd (no_tree bytes a.0 f b.0 a.1 a.2 a.3 b.2)
one_refusal bytes (answers.Parse f) (answers.Expand g) hf hg a b = absurd (no_tree bytes a.0 f b.0 a.1 a.2 a.3 b.2)
one_refusal bytes (answers.Check f) (answers.NotText n) hf hg a b = absurd (both_ways (is_utf8 bytes) b.0 a.2.split.text)
one_refusal bytes (answers.Check f) (answers.Lex g) hf hg a b = absurd (no_split bytes g a.2.tokens b.0 b.2 a.2.split)
one_refusal bytes (answers.Check f) (answers.Parse g) hf hg a b = absurd (no_tree bytes b.0 g a.0 b.1 b.2 b.3 a.2)
one_refusal bytes (answers.Check f) (answers.Check g) hf hg a b =
    ap (λ fault. answers.Check fault) (same_check (faults b.0) f g a.1 b.1
    (subst (λ (tree : PlanTree). IsFirst (faults tree) f) (one_tree bytes a.0 b.0 a.2 b.2) a.3) b.3)
one_refusal bytes (answers.Check f) (answers.Expand g) hf hg a b =
    absurd (no_faults bytes a.0 b.0 f a.1 a.2 a.3 b.2 b.3)
one_refusal bytes (answers.Expand f) (answers.NotText n) hf hg a b = absurd (both_ways (is_utf8 bytes) b.0 a.2.split.text)
one_refusal bytes (answers.Expand f) (answers.Lex g) hf hg a b = absurd (no_split bytes g a.2.tokens b.0 b.2 a.2.split)
one_refusal bytes (answers.Expand f) (answers.Parse g) hf hg a b = absurd (no_tree bytes b.0 g a.0 b.1 b.2 b.3 a.2)
one_refusal bytes (answers.Expand f) (answers.Check g) hf hg a b =
    absurd (no_faults bytes b.0 a.0 g b.1 b.2 b.3 a.2 a.3)
one_refusal bytes (answers.Expand f) (answers.Expand g) hf hg a b =
    ap (λ fault. answers.Expand fault) (same_expand b.0 f g a.1 b.1
    (subst (λ (tree : PlanTree). expanding.IsRefused tree f) (one_tree bytes a.0 b.0 a.2 b.2) a.4) b.4)
one_refusal bytes answers.NoMemory g hf hg a b = absurd (hf refl)
one_refusal bytes f answers.NoMemory hf hg a b = absurd (hg refl)
