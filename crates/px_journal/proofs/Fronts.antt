-- The bytes up to a gate decide what stands before it.
use Rattle.std.proofs.Common.{rules, ◌≡◌, ◌≤◌, ◌+◌, ◌-◌, ℕ, true, List, [], ◌∷◌, ◌++◌, length, take, drop, refl, sym, ◌∙◌, ap, subst, arith, IsTrue}
use Rattle.std.proofs.lemmas.List.{take-take, drop-take, drop-drop}
use Rattle.std.specs.List.{list_all}
use Rattle.std.proofs.lemmas.Bool.{and_from}
use Rattle.std.proofs.lemmas.List.Folds.{list_all-append}
use Rattle.px_event.specs.declared.named.NamedEntry.{NamedEntry}
use Rattle.px_journal.specs.Layout.{heading, record_bytes, is_fit, is_open, is_closed, Opens, Records, records_size, next_gate, Front, StandsAs}
use Rattle.px_journal.specs.declared.version.Version.{Version}

-- what two lists share up to n, they share in each part below n
pub same_part : (n k m : ℕ) (a b : List ℕ) → take n a ≡ take n b → k + m ≤ n → take m (drop k a) ≡ take m (drop k b)
same_part n k m a b same fits =
    sym (drop-take k m a) ∙ ap (λ (l : List ℕ). drop k l) (sym (take-take (k + m) n a fits) ∙ ap (λ (l : List ℕ). take (k + m) l) same ∙ take-take (k + m) n b fits) ∙ drop-take k m b

is_open-front : (a b : List ℕ) → take 1 a ≡ take 1 b → is_open a ≡ is_open b
is_open-front a b same = search rules

pub is_closed-front : (a b : List ℕ) → take 1 a ≡ take 1 b → is_closed a ≡ is_closed b
is_closed-front a b same = search rules

Opens-local : (n : ℕ) (behind a b : List ℕ) → take n a ≡ take n b → 1 + length behind ≤ n → Opens behind a → Opens behind b
Opens-local n behind a b same fits opens = record {
  gate = subst IsTrue (is_open-front a b (same_part n 0 1 a b same (omega (arith, fits)))) opens.gate;
  content = sym (same_part n 1 (length behind) a b same fits) ∙ opens.content;
}

module _ (version : Version) where
  Records-local : (n : ℕ) (history : List NamedEntry) (a b : List ℕ) → take n a ≡ take n b → records_size version history ≤ n → Records version history a → Records version history b
  Records-local n [] a b same fits records = tt
  Records-local n (entry ∷ later) a b same fits records = (
    Opens-local n (record_bytes version entry) a b same (omega (arith, fits)) records.0,
    Records-local (n - (1 + length (record_bytes version entry))) later (drop (1 + length (record_bytes version entry)) a) (drop (1 + length (record_bytes version entry)) b)
        (same_part n (1 + length (record_bytes version entry)) (n - (1 + length (record_bytes version entry))) a b same (omega (arith, fits))) (omega (arith, fits)) records.1,
  )

  pub Front-local : (a b text : List ℕ) (history : List NamedEntry) → take (next_gate version text history) a ≡ take (next_gate version text history) b → Front version a text history → Front version b text history
  Front-local a b text history same front =
      let n = next_gate version text history in record {
        opens = Opens-local n (heading version text) a b same (omega arith) front.opens;
        records = Records-local (n - (1 + length (heading version text))) history (drop (1 + length (heading version text)) a) (drop (1 + length (heading version text)) b)
            (same_part n (1 + length (heading version text)) (n - (1 + length (heading version text))) a b same (omega arith)) (omega arith) front.records;
        text_fits = front.text_fits;
        fit = front.fit;
      }

  -- what stands for a text and a history does so whatever stands behind the closed gate
  pub Stands-local : (a b text : List ℕ) (history : List NamedEntry) → take (next_gate version text history + 1) a ≡ take (next_gate version text history + 1) b → StandsAs version a text history → StandsAs version b text history
  Stands-local a b text history same stands =
      let n = next_gate version text history in record {
        front = Front-local a b text history (sym (take-take n (n + 1) a (omega arith)) ∙ ap (λ (l : List ℕ). take n l) same ∙ take-take n (n + 1) b (omega arith)) stands.front;
        closed = subst IsTrue (is_closed-front (drop n a) (drop n b) (same_part (n + 1) n 1 a b same (omega arith))) stands.closed;
        few = stands.few;
      }

  -- ---- one record more

  records_size-push : (history : List NamedEntry) (entry : NamedEntry) → records_size version (history ++ entry ∷ []) ≡ records_size version history + 1 + length (record_bytes version entry)
  records_size-push [] entry = omega arith
  records_size-push (first ∷ later) entry = omega (arith, records_size-push later entry)

  pub next_gate-push : (text : List ℕ) (history : List NamedEntry) (entry : NamedEntry) → next_gate version text (history ++ entry ∷ []) ≡ next_gate version text history + 1 + length (record_bytes version entry)
  next_gate-push text history entry = omega (arith, records_size-push history entry)

  Records-push : (history : List NamedEntry) (entry : NamedEntry) (bytes : List ℕ) → Records version history bytes → Opens (record_bytes version entry) (drop (records_size version history) bytes)
      → Records version (history ++ entry ∷ []) bytes
  Records-push [] entry bytes records opens = (opens, tt)
  Records-push (first ∷ later) entry bytes records opens = (
    records.0,
    Records-push later entry (drop (1 + length (record_bytes version first)) bytes) records.1
        (subst (Opens (record_bytes version entry)) (sym (drop-drop (records_size version later) (1 + length (record_bytes version first)) bytes)) opens),
  )

  pub fits-push : (history : List NamedEntry) (entry : NamedEntry) → IsTrue (list_all (is_fit version) history) → IsTrue (is_fit version entry)
      → IsTrue (list_all (is_fit version) (history ++ entry ∷ []))
  fits-push history entry all fit =
      list_all-append (is_fit version) history (entry ∷ [])
      ∙ and_from (list_all (is_fit version) history) (list_all (is_fit version) (entry ∷ [])) all (and_from (is_fit version entry) true fit refl)

  pub Front-push : (bytes text : List ℕ) (history : List NamedEntry) (entry : NamedEntry) → Front version bytes text history → IsTrue (is_fit version entry)
      → Opens (record_bytes version entry) (drop (next_gate version text history) bytes) → Front version bytes text (history ++ entry ∷ [])
  Front-push bytes text history entry front is_fit opens = record {
    opens = front.opens;
    records = Records-push history entry (drop (1 + length (heading version text)) bytes) front.records
        (subst (Opens (record_bytes version entry)) (sym (drop-drop (records_size version history) (1 + length (heading version text)) bytes)) opens);
    text_fits = front.text_fits;
    fit = fits-push history entry front.fit is_fit;
  }
