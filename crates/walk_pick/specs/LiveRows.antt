-- Rows of the places of moves.
--   live_step test star p n     whether the move of a kind at place n passes, and n is p
use Rattle.std.specs.Prelude.{ℕ, ◌==◌, ◌&&◌, Bool}
use Rattle.sel_graph.specs.declared.states.Move.{Move}
use Rattle.sel_graph.specs.Numbers.{move_of}

-- whether the move of a kind at place n passes, and n is p
abbrev pub live_step : (Move → Bool) → Bool → ℕ → ℕ → Bool
live_step test star p n = test (move_of star n) && (n == p)
