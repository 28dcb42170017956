-- A fold of which at most one item has to do with what is looked at.
use Rattle.std.proofs.Common.{◌≡◌, ℕ, suc, ◌<◌, Bool, true, false, cond, List, [], ◌∷◌, get_or, fold, nat_eq, refl, ap, ◌∙◌, arith, Option, Some, All, AllPairs}
use Rattle.std.specs.List.{find}
use Rattle.std.specs.Option.{option_map_or}
use Rattle.std.proofs.lemmas.Bool.{eqb-true, false_from_ne_true}
use Rattle.std.proofs.lemmas.List.Elements.{All-head, All-tail}

-- what is seen after the item that was found, where one was
abbrev pub hit_by : {A V : Type 0} → (A → V → V) → V → Option A → V
hit_by f old found = option_map_or (λ item. f item old) found old

-- what holds of a state holds after all items
pub fold_keeps : {A S : Type 0} (step : S → A → S) (Ok : S → Type 0) (Fits : A → Type 0)
    → ((s : S) (item : A) → Fits item → Ok s → Ok (step s item))
    → (items : List A) (s : S) → All Fits items → Ok s → Ok (fold step s items)
fold_keeps step Ok Fits keeps [] s fit ok = ok
fold_keeps step Ok Fits keeps (item ∷ items) s fit ok =
    fold_keeps step Ok Fits keeps items (step s item) (All-tail Fits item items fit)
    (keeps s item (All-head Fits item items fit) ok)

-- no item has to do with it
pub none_hit : {A S V : Type 0} (step : S → A → S) (see : S → V) (hits : A → Bool) (Ok : S → Type 0) (Fits : A → Type 0)
    → ((s : S) (item : A) → Fits item → Ok s → Ok (step s item))
    → ((s : S) (item : A) → Fits item → Ok s → hits item ≡ false → see (step s item) ≡ see s)
    → (items : List A) (s : S) → All Fits items → Ok s → All (λ item. hits item ≡ false) items
    → see (fold step s items) ≡ see s
none_hit step see hits Ok Fits keeps missed items s fit ok none =
    (fold_keeps step (λ t. Ok t × (see t ≡ see s)) (λ item. Fits item × (hits item ≡ false))
    (λ t item so same. (keeps t item so.0 same.0, missed t item so.0 same.0 so.1 ∙ same.1)) items s
    (λ k d within. (fit k d within, none k d within)) (ok, refl)).1

-- at most one has
pub one_hit : {A S V : Type 0} (step : S → A → S) (see : S → V) (hits : A → Bool) (Ok : S → Type 0) (Fits : A → Type 0)
    (f : A → V → V)
    → ((s : S) (item : A) → Fits item → Ok s → Ok (step s item))
    → ((s : S) (item : A) → Fits item → Ok s → hits item ≡ false → see (step s item) ≡ see s)
    → ((s : S) (item : A) → Fits item → Ok s → hits item ≡ true → see (step s item) ≡ f item (see s))
    → (items : List A) (s : S) → All Fits items → Ok s → AllPairs (λ a b. hits a ≡ true → hits b ≡ false) items
    → see (fold step s items) ≡ hit_by f (see s) (find hits items)
one_hit step see hits Ok Fits f keeps missed hit [] s fit ok apart = refl
one_hit step see hits Ok Fits f keeps missed hit (item ∷ items) s fit ok apart =
    by (hits item) refl
    (one_hit step see hits Ok Fits f keeps missed hit items (step s item) (All-tail Fits item items fit) (keeps s item here ok)
    (λ i j d before within. apart (suc i) (suc j) d (omega arith) (omega arith)))
  where
    here : Fits item
    here = All-head Fits item items fit

    by : (b : Bool) → hits item ≡ b → see (fold step (step s item) items) ≡ hit_by f (see (step s item)) (find hits items)
        → see (fold step (step s item) items) ≡ hit_by f (see s) (cond b (Some item) (find hits items))
    by true is rest =
        none_hit step see hits Ok Fits keeps missed items (step s item) (All-tail Fits item items fit) (keeps s item here ok)
        (λ k d within. apart 0 (suc k) d (omega arith) (omega (arith, within)) is)
        ∙ hit s item here ok is
    by false is rest = rest ∙ ap (λ old. hit_by f old (find hits items)) (missed s item here ok is)

-- where their keys rise, one item at most has a key
pub keys_apart : {A : Type 0} (key : A → ℕ) (items : List A) (node : ℕ) → AllPairs (λ a b. key a < key b) items
    → AllPairs (λ a b. nat_eq (key a) node ≡ true → nat_eq (key b) node ≡ false) items
keys_apart key items node rise i j d before within hit =
    false_from_ne_true (nat_eq (key (get_or items j d)) node) (λ other.
    omega (arith, rise i j d before within, eqb-true (key (get_or items i d)) node hit, eqb-true (key (get_or items j d)) node other))
