-- A line for each item of a list, on their way to the sink.
use Rattle.std.proofs.Common.{◌≡◌, ℕ, ◌+◌, ◌<◌, List, ◌++◌, take, drop, get_or, length, ap, sym, ◌∙◌}
use Rattle.std.proofs.Concat.{flat_map-take_more}
use Rattle.std.proofs.lemmas.Grind.{flat_map-append}
use Rattle.std.proofs.lemmas.List.{take-append-drop}
use Rattle.std.specs.List.{flat_map}
use Rattle.px_value.proofs.General.{cut_at}
use Rattle.px_output.specs.Printing.{Buffers}
use Rattle.px_output.specs.View.{View, OnlyPrints}
use Rattle.px_output.proofs.Printed.{buffers_none, goes_on, only_same, only_more}

-- so many lines are told
pub record IsListed {X : Type 0} (line : X → List ℕ) (xs : List X) (count : ℕ) (old : View) (p : List ℕ) (new : View) (q : List ℕ) : Type 0 where
  pub buffers : Buffers old p new q (flat_map line (take count xs))
  pub only : OnlyPrints old new

module _ {X : Type 0} (line : X → List ℕ) (xs : List X) where
  pub none_listed : (v : View) (p : List ℕ) → IsListed line xs 0 v p v p
  none_listed v p = record { buffers = buffers_none v p; only = only_same v }

  -- the next item
  module _ (count : ℕ) (x : X) (within : count < length xs) (is : x ≡ get_or xs count x) where
    lines_more : flat_map line (take (count + 1) xs) ≡ flat_map line (take count xs) ++ line x
    lines_more = sym (flat_map-take_more line xs count x within) ∙ ap (λ y. flat_map line (take count xs) ++ line y) (sym is)

    -- one line more
    pub one_listed : (old mid new : View) (p q r : List ℕ) → IsListed line xs count old p mid q → Buffers mid q new r (line x) → OnlyPrints mid new
        → IsListed line xs (count + 1) old p new r
    one_listed old mid new p q r t buffers only = record {
      buffers = rw lines_more (goes_on old mid new p q r (flat_map line (take count xs)) (line x) t.buffers buffers);
      only = only_more old mid new t.only only;
    }

    -- the next line, and those behind it
    pub lines_left : flat_map line xs ≡ flat_map line (take count xs) ++ (line x ++ flat_map line (drop (count + 1) xs))
    lines_left =
        ap (flat_map line) (sym (take-append-drop count xs))
        ∙ flat_map-append line (take count xs) (drop count xs)
        ∙ ap (λ rest. flat_map line (take count xs) ++ flat_map line rest) (cut_at xs count x within is)
