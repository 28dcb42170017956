-- What each moment of an append leaves: the two writes, each synced before the next.
use Rattle.std.proofs.Common.{◌≡◌, ◌≤◌, ◌<◌, ◌+◌, inl, inr, ℕ, Bool, true, false, List, [], ◌∷◌, ◌++◌, length, take, drop, refl, sym, ◌∙◌, ap, subst, arith, append_assoc, length-append, IsTrue}
use Rattle.std.proofs.lemmas.List.{take_at, drop_at, drop-drop, drop_all, length-drop}
use Rattle.std.specs.Prelude.{Some, Result, Ok}
use Rattle.std.specs.Option.{ForSome, option_map}
use Rattle.std.proofs.lemmas.Bool.{cases_lt, cases_Bool, false≢true}
use Rattle.px_event.specs.declared.named.NamedEntry.{NamedEntry}
use Rattle.px_ports.specs.Moment.{Images, Torn, Elapses, overwritten}
use Rattle.px_ports.specs.declared.moment.Moment.{Moment}
use Rattle.px_ports.specs.Disk.{Told}
use Rattle.px_ports.specs.declared.disk.DiskFault.{DiskFault}
use Rattle.px_journal.specs.Crash.{Puts, WithOrWithoutAs, LeavesOnly}
use Rattle.px_journal.specs.Layout.{record_bytes, is_fit, is_open, is_closed, next_gate, Front, StandsAs}
use Rattle.px_journal.specs.declared.version.Version.{Version}
use Rattle.px_journal.proofs.Fronts.{Front-local, Stands-local, Front-push, next_gate-push}
use Rattle.px_journal.proofs.Moments.{leaves, leaves_on}
use Rattle.px_journal.proofs.Torn.{torn_below, torn_above, torn_length, written_below, written_from, written_above}

-- a disk tells one content
pub same_told : (told : Told) (a b : List ℕ) → told ≡ Some a → told ≡ Some b → a ≡ b
same_told told a b first second = cc

-- a gate at which something stands is within the bytes
pub gate_within : (test : List ℕ → Bool) (gate : ℕ) (bytes : List ℕ) → test [] ≡ false → test (drop gate bytes) ≡ true → gate < length bytes
gate_within test gate bytes none stands = elim (cases_lt gate (length bytes)) [
  | inl within ↦ within
  | inr past ↦ absurd (false≢true (sym none ∙ sym (ap test (drop_all gate bytes past)) ∙ stands))
]

-- a closed gate
pub closed_within : (gate : ℕ) (bytes : List ℕ) → IsTrue (is_closed (drop gate bytes)) → gate < length bytes
closed_within gate bytes = gate_within is_closed gate bytes refl

-- what isn't closed is open
pub open_or_closed : (bytes : List ℕ) → 1 ≤ length bytes → is_closed bytes ≡ false → IsTrue (is_open bytes)
open_or_closed [] long shut = absurd (omega arith)
open_or_closed (gate ∷ rest) long shut = rw shut refl

module _ (version : Version) (text : List ℕ) (history : List NamedEntry) (entry : NamedEntry) (told : List ℕ) (stands : StandsAs version told text history)
    (fit : IsTrue (is_fit version entry)) (few : length history < 100000) where
  abbrev g : ℕ
  g = next_gate version text history

  abbrev behind : List ℕ
  behind = record_bytes version entry ++ 0 ∷ []

  -- the bytes with the record behind the closed gate
  abbrev pub staged : List ℕ
  staged = overwritten (next_gate version text history + 1) (record_bytes version entry ++ 0 ∷ []) told

  within : g + 1 ≤ length told
  within = omega (arith, closed_within g told stands.closed)

  -- a torn write of the record stands behind a closed gate
  torn_record : (image : List ℕ) → Torn (g + 1) (length behind) told image → StandsAs version image text history
  torn_record image torn = Stands-local version told image text history (sym (torn_below (g + 1) (length behind) told image torn within)) stands

  staged_below : take (g + 1) staged ≡ take (g + 1) told
  staged_below = written_below (g + 1) behind told within

  pub staged_stands : StandsAs version staged text history
  staged_stands = Stands-local version told staged text history (sym staged_below) stands

  abbrev rest : List ℕ
  rest = drop (g + 1 + length behind) told

  staged_from : drop (g + 1) staged ≡ record_bytes version entry ++ 0 ∷ rest
  staged_from = written_from (g + 1) behind told within ∙ append_assoc (record_bytes version entry) (0 ∷ []) rest

  pub staged_within : g + 1 ≤ length staged
  staged_within = omega (arith, closed_within g staged staged_stands.closed)

  -- over a record that is whole, a gate means closed or open
  module _ (image : List ℕ) (below : take g image ≡ take g staged) (above : drop (g + 1) image ≡ drop (g + 1) staged) where
    front : Front version image text history
    front = Front-local version staged image text history (sym below) staged_stands.front

    from : drop (g + 1) image ≡ record_bytes version entry ++ 0 ∷ rest
    from = above ∙ staged_from

    closed_gate : IsTrue (is_closed (drop g image)) → StandsAs version image text history
    closed_gate closed = record { front = front; closed = closed; few = stands.few }

    open_gate : IsTrue (is_open (drop g image)) → StandsAs version image text (history ++ entry ∷ [])
    open_gate gate = record {
      front = Front-push version image text history entry front fit (record {
        gate = gate;
        content = ap (λ (l : List ℕ). take (length (record_bytes version entry)) l) (drop-drop 1 g image ∙ from) ∙ take_at (record_bytes version entry) (0 ∷ rest) (length (record_bytes version entry)) refl;
      });
      closed =
          let place : drop (next_gate version text (history ++ entry ∷ [])) image ≡ 0 ∷ rest =
          ap (λ (n : ℕ). drop n image) (next_gate-push version text history entry)
          ∙ sym (drop-drop (length (record_bytes version entry)) (g + 1) image)
          ∙ ap (λ (l : List ℕ). drop (length (record_bytes version entry)) l) from
          ∙ drop_at (record_bytes version entry) (0 ∷ rest) (length (record_bytes version entry)) refl in
          subst IsTrue (sym (ap is_closed place)) refl;
      few = omega (arith, few, length-append history (entry ∷ []));
    }

  torn_gate : (image : List ℕ) → Torn g 1 staged image → WithOrWithoutAs version text history entry image
  torn_gate image torn =
      let below = torn_below g 1 staged image torn (omega (arith, staged_within)) in
      let above = torn_above g 1 staged image torn staged_within in
      let long : 1 ≤ length (drop g image) = omega (arith, staged_within, torn_length g 1 staged image torn staged_within, length-drop g image) in
      elim (cases_Bool (is_closed (drop g image))) [
        | inl closed ↦ inl (closed_gate image below above closed)
        | inr shut ↦ inr (open_gate image below above (open_or_closed (drop g image) long shut))
      ]

  -- after the second write a read gives the history with the entry
  pub opened_stands : StandsAs version (overwritten (next_gate version text history) (1 ∷ []) staged) text (history ++ entry ∷ [])
  opened_stands =
      let image = overwritten g (1 ∷ []) staged in
      let fits : g ≤ length staged = omega (arith, staged_within) in
      open_gate image (written_below g (1 ∷ []) staged fits) (written_above g (1 ∷ []) staged fits)
      (subst IsTrue (sym (ap is_open (written_from g (1 ∷ []) staged fits))) refl)

  -- ---- the moments of the two writes

  module _ (images : Images) (old new : List Moment) where
    pub record_leaves : ((image : List ℕ) → images old image → image ≡ told) → Elapses images (Torn (next_gate version text history + 1) (length (record_bytes version entry ++ 0 ∷ []))) old new
        → LeavesOnly images (WithOrWithoutAs version text history entry) old new
    record_leaves synced elapses = leaves images (WithOrWithoutAs version text history entry) (Torn (g + 1) (length behind)) old new elapses
        (λ before image was torn. inl (torn_record image (subst (λ (b : List ℕ). Torn (g + 1) (length behind) b image) (synced before was) torn)))

    pub gate_leaves : ((image : List ℕ) → images old image → image ≡ staged) → Elapses images (Torn (next_gate version text history) 1) old new
        → LeavesOnly images (WithOrWithoutAs version text history entry) old new
    gate_leaves synced elapses = leaves images (WithOrWithoutAs version text history entry) (Torn g 1) old new elapses
        (λ before image was torn. torn_gate image (subst (λ (b : List ℕ). Torn g 1 b image) (synced before was) torn))

  -- ---- the two writes as calls

  module _ (images : Images) (was mid : Told) (old half : List Moment) (is : was ≡ Some told) (synced : (image : List ℕ) → images old image → image ≡ told)
      (at : ℕ) (at_is : at ≡ next_gate version text history + 1) (bytes : List ℕ) (bytes_are : bytes ≡ record_bytes version entry ++ 0 ∷ []) where
    pub first_leaves : (result : Result Unit DiskFault) → Puts images at bytes was mid old half result → LeavesOnly images (WithOrWithoutAs version text history entry) old half
    first_leaves result puts = record_leaves images old half synced
        (subst (λ (b : List ℕ). Elapses images (Torn (g + 1) (length b)) old half) bytes_are
        (subst (λ (n : ℕ). Elapses images (Torn n (length bytes)) old half) at_is puts.elapses))

    module _ (first : Puts images at bytes was mid old half (Ok tt)) where
      pub mid_told : mid ≡ Some staged
      mid_told = first.written ∙ ap (option_map (overwritten at bytes)) is
          ∙ ap (λ (n : ℕ). Some (overwritten n bytes told)) at_is ∙ ap (λ (b : List ℕ). Some (overwritten (g + 1) b told)) bytes_are

      pub mid_within : ForSome mid (λ now. next_gate version text history ≤ length now)
      mid_within now now_is = omega (arith, staged_within, ap length (same_told mid _ now mid_told now_is))

      module _ (then : Told) (new : List Moment) (gate : ℕ) (gate_is : gate ≡ next_gate version text history) where
        pub second_leaves : (result : Result Unit DiskFault) → Puts images gate (1 ∷ []) mid then half new result
            → LeavesOnly images (WithOrWithoutAs version text history entry) old new
        second_leaves result puts = leaves_on images (WithOrWithoutAs version text history entry) old half new (first_leaves (Ok tt) first)
            (gate_leaves images half new (first.synced staged mid_told) (subst (λ (n : ℕ). Elapses images (Torn n 1) half new) gate_is puts.elapses))

        module _ (second : Puts images gate (1 ∷ []) mid then half new (Ok tt)) where
          pub then_told : then ≡ Some (overwritten (next_gate version text history) (1 ∷ []) staged)
          then_told = second.written ∙ ap (option_map (overwritten gate (1 ∷ []))) mid_told ∙ ap (λ (n : ℕ). Some (overwritten n (1 ∷ []) staged)) gate_is

          -- what a read gives then
          pub then_stands : ForSome then (λ now. StandsAs version now text (history ++ entry ∷ []))
          then_stands now now_is =
              subst (λ (b : List ℕ). StandsAs version b text (history ++ entry ∷ [])) (same_told then _ now then_told now_is) opened_stands
