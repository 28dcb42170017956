-- Which parts read which sources.
use Rattle.std.specs.Prelude.{◌≡◌, ℕ, ◌<◌, true, List, [], length, map, All, Contains}
use Rattle.px_core.specs.Plan.{Site}
use Rattle.px_flat.specs.NumberedData.{expr_data}
use Rattle.px_flat.specs.Sources.{Source, sources_in}
use Rattle.px_listen.specs.Listening.{ListenData, is_dependent}
use Rattle.px_cached.specs.declared.part.Part.{Part}
use Rattle.px_cached.specs.declared.part.Part.TheVariants as parts
use Rattle.px_cached.specs.declared.reading.Reader.{Reader}
use Rattle.px_cached.specs.Conditions.{all_sources, has_source, source_number}
use Rattle.px_cached.specs.Network.{part_at}

-- the sources of what is evaluated whole
abbrev pub sources_at : List Site → Part → List Source
sources_at plan (parts.Whole expr) = sources_in plan (expr_data expr)
sources_at plan (parts.Joined joint left right) = []

abbrev pub reader_of : List Site → ℕ → Source → Reader
reader_of plan part source = record { source = source_number plan source; part = part }

abbrev pub readers_of : List Site → ℕ → List Source → List Reader
readers_of plan part sources = map (reader_of plan part) sources

-- each part below this number has a reader for each of its sources, and all are of the plan
pub record AreReadersBelow (plan : List Site) (network : List Part) (readers : List Reader) (count : ℕ) : Type 0 where
  pub each : (part : ℕ) → part < count
      → All (λ source. Contains readers (reader_of plan part source)) (sources_at plan (part_at network part))
  pub within : All (λ (reader : Reader). (reader.source < all_sources plan) × (reader.part < length network)) readers
  pub only : All (λ (reader : Reader). has_source plan reader.source (sources_at plan (part_at network reader.part)) ≡ true) readers

-- each part is a dependent of each of its sources, and of no other
pub record AreListening (plan : List Site) (network : List Part) (listeners : ListenData) : Type 0 where
  pub sources : length listeners.dependents ≡ all_sources plan
  pub watchers : listeners.watchers ≡ length network
  pub each : (part : ℕ) → part < length network
      → All (λ source. is_dependent listeners (source_number plan source) part ≡ true)
      (sources_at plan (part_at network part))
  pub only : (number part : ℕ) → is_dependent listeners number part ≡ true
      → has_source plan number (sources_at plan (part_at network part)) ≡ true
