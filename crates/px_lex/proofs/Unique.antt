-- No text splits in two ways, and the first fault of a text is one.
use Rattle.std.proofs.Common.{◌≡◌, ◌≢◌, ℕ, ◌+◌, List, [], ◌∷◌, ◌++◌, length, Option, None, refl, sym, ap, ◌∙◌, subst, arith, append-nil, append_assoc, length-append}
use Rattle.px_lex.specs.declared.fault.LexFault.{LexFault}
use Rattle.px_lex.specs.declared.fault.LexFault.TheVariants as faults
use Rattle.px_lex.specs.declared.token.Token.{Token}
use Rattle.px_lex.specs.declared.token.TokenKind.{TokenKind}
use Rattle.px_lex.specs.Fault.{FaultKind, Bad, Real, TooLong, IsFaulty}
use Rattle.px_lex.specs.Lexer.{Piece, spelled, AllStand, token_at, tokens_from, Splits, IsFault, FirstFault, Begins}
use Rattle.px_lex.proofs.Fronts.{Front, nothing, piece, faulty, front, stands_front, fault_front}

-- neither a gap nor a token stands at the front
abbrev Stops : List ℕ → Type 0
Stops text = (kind : Option TokenKind) (rest : List ℕ) → front text ≡ piece kind rest → ⊥

-- two ways to go through one text have the same tokens, and end at one place
record Agree (at : ℕ) (ps qs : List Piece) (r s : List ℕ) : Type 0 where
  pub tokens : tokens_from at ps ≡ tokens_from at qs
  pub rest : r ≡ s

-- what stands there, and what is behind it
abbrev pub rest_of : Front → List ℕ
rest_of (piece kind rest) = rest
rest_of other = []

abbrev pub kind_of : Front → Option TokenKind
kind_of (piece kind rest) = kind
kind_of other = None

agree : (at : ℕ) (ps qs : List Piece) (r s : List ℕ) → spelled ps ++ r ≡ spelled qs ++ s → AllStand ps r → AllStand qs s → Stops r → Stops s → Agree at ps qs r s
agree at [] [] r s e sp sq stop_r stop_s = record { tokens = refl; rest = e }
agree at [] (q ∷ qs) r s e sp sq stop_r stop_s =
    absurd (stop_r q.kind (spelled qs ++ s) (ap front (e ∙ append_assoc q.spelling (spelled qs) s) ∙ stands_front q.kind q.spelling (spelled qs ++ s) sq.0))
agree at (p ∷ ps) [] r s e sp sq stop_r stop_s =
    absurd (stop_s p.kind (spelled ps ++ r) (ap front (sym e ∙ append_assoc p.spelling (spelled ps) r) ∙ stands_front p.kind p.spelling (spelled ps ++ r) sp.0))
agree at (p ∷ ps) (q ∷ qs) r s e sp sq stop_r stop_s =
    let whole : p.spelling ++ (spelled ps ++ r) ≡ q.spelling ++ (spelled qs ++ s) = sym (append_assoc p.spelling (spelled ps) r) ∙ e ∙ append_assoc q.spelling (spelled qs) s in
    let same : piece p.kind (spelled ps ++ r) ≡ piece q.kind (spelled qs ++ s) = sym (stands_front p.kind p.spelling (spelled ps ++ r) sp.0) ∙ ap front whole ∙ stands_front q.kind q.spelling (spelled qs ++ s) sq.0 in
    let rests : spelled ps ++ r ≡ spelled qs ++ s = ap rest_of same in
    let kinds : p.kind ≡ q.kind = ap kind_of same in
    let long : length p.spelling ≡ length q.spelling = omega (arith, ap length whole, ap length rests, length-append p.spelling (spelled ps ++ r), length-append q.spelling (spelled qs ++ s)) in
    let more : Agree (at + length p.spelling) ps qs r s = agree (at + length p.spelling) ps qs r s rests sp.1 sq.1 stop_r stop_s in
    record {
      tokens = ap (λ k. token_at at k ++ tokens_from (at + length p.spelling) ps) kinds ∙ ap (λ ts. token_at at q.kind ++ ts) (more.tokens ∙ ap (λ n. tokens_from (at + n) qs) long);
      rest = more.rest;
    }

end_stops : Stops []
end_stops = λ kind rest h. cc

-- what is at fault is no piece
pub clash : (kind : FaultKind) (other : Option TokenKind) (rest : List ℕ) → faulty kind ≡ piece other rest → ⊥
clash kind other rest h = cc

faulty_stops : (kind : FaultKind) (rest : List ℕ) → IsFaulty kind rest → Stops rest
faulty_stops kind rest f = λ other behind h. clash kind other behind (sym (fault_front kind rest f) ∙ h)

-- a fault of the text is of one of three kinds
pub faulty_kind : (fault : LexFault) (place : ℕ) (rest : List ℕ) → fault ≢ faults.NoMemory → IsFault fault place rest → (kind : FaultKind) × IsFaulty kind rest
faulty_kind (faults.Bad at) place rest some f = (Bad, f.1)
faulty_kind (faults.Real at) place rest some f = (Real, f.1)
faulty_kind (faults.TooLong at) place rest some f = (TooLong, f.1)
faulty_kind faults.NoMemory place rest some f = absurd (some refl)

pub fault_stops : (fault : LexFault) (place : ℕ) (rest : List ℕ) → fault ≢ faults.NoMemory → IsFault fault place rest → Stops rest
fault_stops fault place rest some f = let told = faulty_kind fault place rest some f in faulty_stops told.0 rest told.1

pub one_way : (text : List ℕ) (a b : List Token) → Splits text a → Splits text b → a ≡ b
one_way text a b s t =
    let both : spelled s.pieces ++ [] ≡ spelled t.pieces ++ [] = append-nil (spelled s.pieces) ∙ sym s.whole ∙ t.whole ∙ sym (append-nil (spelled t.pieces)) in
    s.listed ∙ (agree 0 s.pieces t.pieces [] [] both s.stand t.stand end_stops end_stops).tokens ∙ sym t.listed

-- no fault stands at the end
pub not_at_end : (kind : FaultKind) → IsFaulty kind [] → ⊥
not_at_end kind f = let h : nothing ≡ faulty kind = fault_front kind [] f in cc

no_fault_at_end : (fault : LexFault) (place : ℕ) → fault ≢ faults.NoMemory → IsFault fault place [] → ⊥
no_fault_at_end fault place some f = let told = faulty_kind fault place [] some f in not_at_end told.0 told.1

pub no_fault : (text : List ℕ) (tokens : List Token) (fault : LexFault) → Splits text tokens → fault ≢ faults.NoMemory → FirstFault text fault → ⊥
no_fault text tokens fault s some f =
    let both : spelled s.pieces ++ [] ≡ spelled f.pieces ++ f.rest = append-nil (spelled s.pieces) ∙ sym s.whole ∙ f.whole in
    let found : Agree 0 s.pieces f.pieces [] f.rest = agree 0 s.pieces f.pieces [] f.rest both s.stand f.stand end_stops (fault_stops fault (length (spelled f.pieces)) f.rest some f.there) in
    no_fault_at_end fault (length (spelled f.pieces)) some (subst (λ r. IsFault fault (length (spelled f.pieces)) r) (sym found.rest) f.there)

-- two faults at one place are of one kind
same_kind : (f g : FaultKind) (rest : List ℕ) → IsFaulty f rest → IsFaulty g rest → faulty f ≡ faulty g
same_kind f g rest a b = sym (fault_front f rest a) ∙ fault_front g rest b

same_fault : (f g : LexFault) (place : ℕ) (rest : List ℕ) → f ≢ faults.NoMemory → g ≢ faults.NoMemory → IsFault f place rest → IsFault g place rest → f ≡ g
same_fault (faults.Bad m) (faults.Bad n) place rest hf hg a b = ap (λ at. faults.Bad at) (a.0 ∙ sym b.0)
same_fault (faults.Bad m) (faults.Real n) place rest hf hg a b = let h : faulty Bad ≡ faulty Real = same_kind _ _ rest a.1 b.1 in cc
same_fault (faults.Bad m) (faults.TooLong n) place rest hf hg a b = let h : faulty Bad ≡ faulty TooLong = same_kind _ _ rest a.1 b.1 in cc
same_fault (faults.Real m) (faults.Bad n) place rest hf hg a b = let h : faulty Real ≡ faulty Bad = same_kind _ _ rest a.1 b.1 in cc
same_fault (faults.Real m) (faults.Real n) place rest hf hg a b = ap (λ at. faults.Real at) (a.0 ∙ sym b.0)
same_fault (faults.Real m) (faults.TooLong n) place rest hf hg a b = let h : faulty Real ≡ faulty TooLong = same_kind _ _ rest a.1 b.1 in cc
same_fault (faults.TooLong m) (faults.Bad n) place rest hf hg a b = let h : faulty TooLong ≡ faulty Bad = same_kind _ _ rest a.1 b.1 in cc
same_fault (faults.TooLong m) (faults.Real n) place rest hf hg a b = let h : faulty TooLong ≡ faulty Real = same_kind _ _ rest a.1 b.1 in cc
same_fault (faults.TooLong m) (faults.TooLong n) place rest hf hg a b = ap (λ at. faults.TooLong at) (a.0 ∙ sym b.0)
same_fault faults.NoMemory g place rest hf hg a b = absurd (hf refl)
same_fault f faults.NoMemory place rest hf hg a b = absurd (hg refl)

pub one_fault : (text : List ℕ) (f g : LexFault) → f ≢ faults.NoMemory → g ≢ faults.NoMemory → FirstFault text f → FirstFault text g → f ≡ g
one_fault text f g hf hg a b =
    let both : spelled a.pieces ++ a.rest ≡ spelled b.pieces ++ b.rest = sym a.whole ∙ b.whole in
    let found : Agree 0 a.pieces b.pieces a.rest b.rest = agree 0 a.pieces b.pieces a.rest b.rest both a.stand b.stand (fault_stops f (length (spelled a.pieces)) a.rest hf a.there) (fault_stops g (length (spelled b.pieces)) b.rest hg b.there) in
    let long : length (spelled a.pieces) ≡ length (spelled b.pieces) = omega (arith, ap length both, ap length found.rest, length-append (spelled a.pieces) a.rest, length-append (spelled b.pieces) b.rest) in
    same_fault f g (length (spelled b.pieces)) b.rest hf hg (subst (λ r. IsFault f (length (spelled b.pieces)) r) found.rest (subst (λ n. IsFault f n a.rest) long a.there)) b.there

-- where a fault stands neither a gap nor a token begins
pub no_piece : (text : List ℕ) (fault : LexFault) (place : ℕ) (kind : Option TokenKind) (rest : List ℕ)
    → fault ≢ faults.NoMemory → IsFault fault place text → Begins kind text rest → ⊥
no_piece text fault place kind rest some f b =
    fault_stops fault place text some f kind rest (ap front b.split ∙ stands_front kind b.spelling rest b.stands)
