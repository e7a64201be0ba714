-- What words hold, and whether they are one's; what stands for it where they are none's is out of range.
use Rattle.std.specs.Prelude.{Bool, Option}
use Rattle.std.specs.Bool.{then_some}
use Rattle.gif.specs.declared.Path.{Path}
use Rattle.unpack_rules.specs.declared.Format.{Format}
use Rattle.vif_codes.specs.declared.Waiting.{Waiting}
use Rattle.vif_codes.specs.declared.Vif.{Vif}
use Rattle.chain_state.specs.declared.State.{State}

pub record ReadPath : Type 0 where
  pub known : Bool
  pub path : Path

pub record ReadFormat : Type 0 where
  pub known : Bool
  pub format : Format

pub record ReadWaiting : Type 0 where
  pub known : Bool
  pub waiting : Waiting

pub record ReadUnit : Type 0 where
  pub known : Bool
  pub unit : Vif

pub record ReadState : Type 0 where
  pub known : Bool
  pub state : State

-- ---- as it is handed out: none where the words are none's

abbrev pub known_path : ReadPath → Option Path
known_path r = then_some r.known r.path

abbrev pub known_format : ReadFormat → Option Format
known_format r = then_some r.known r.format

abbrev pub known_waiting : ReadWaiting → Option Waiting
known_waiting r = then_some r.known r.waiting

abbrev pub known_unit : ReadUnit → Option Vif
known_unit r = then_some r.known r.unit

abbrev pub known_state : ReadState → Option State
known_state r = then_some r.known r.state
