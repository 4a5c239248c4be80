-- A counter rises.
use Rattle.std.proofs.Common.{◌≡◌, ◌≢◌, ℕ, Bool, true, false, List, refl, sym, ◌∙◌, ap, subst, arith}
use Rattle.std.specs.FinMap as map_of
use Rattle.metadata_schema.specs.Bytes.{same}
use Rattle.level_rows.proofs.EndLemmas.{same-true, same-itself}
use Rattle.node_store.specs.Nodes.{Nodes}
use Rattle.store_layout.specs.Nodes.{next_name_path, next_table_path, next_session_path}
use Rattle.store_meaning.proofs.NewState.{second_byte}
use Rattle.kept_meaning.specs.Nodes.{IsNoLower, DrawsNumber, RaisesCounter}

module _ (old new : Nodes) (path : List ℕ) (raises : RaisesCounter old new path) where
  -- another counter stays
  no_lower : (counter : List ℕ) → IsNoLower counter old new
  no_lower counter = by (same counter path) refl
    where
      by : (b : Bool) → same counter path ≡ b → IsNoLower counter old new
      by true e = subst (λ p. IsNoLower p old new) (sym (same-true counter path e)) raises.raised
      by false e = λ number is. (
        number,
        record { node = is.node; there = raises.others counter (λ at. (let wrong : true ≡ false = sym (same-itself counter path at) ∙ e in cc)) ∙ is.there; value = is.value },
        omega arith,
      )

  -- a path that doesn't begin as a counter's
  apart : (other : List ℕ) (byte : ℕ) → second_byte other ≡ byte → byte ≢ 110 → map_of.get new other ≡ map_of.get old other
  apart other byte is differs = raises.others other (λ at. differs (sym is ∙ ap second_byte (at ∙ raises.of.1)))

  pub counter_draws : DrawsNumber old new
  counter_draws = record {
    beside = record {
      aside = record {
        root = apart _ 114 refl (λ e. omega (arith, e));
        logs = λ session. apart _ 108 refl (λ e. omega (arith, e));
        sorted = λ log. apart _ 115 refl (λ e. omega (arith, e));
      };
      candidates = λ name. apart _ 103 refl (λ e. omega (arith, e));
      servers = λ server. apart _ 115 refl (λ e. omega (arith, e));
      names = no_lower next_name_path;
      ids = no_lower next_table_path;
      sessions = no_lower next_session_path;
    };
    tables = λ id. apart _ 116 refl (λ e. omega (arith, e));
    staged = λ name. apart _ 115 refl (λ e. omega (arith, e));
  }
