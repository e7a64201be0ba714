-- The state with some of its parts replaced.
use Rattle.std.specs.Prelude.{ℕ, Bool, Option}
use Rattle.gif.specs.declared.Path.{Path}
use Rattle.memories.specs.declared.VifUnit.{VifUnit}
use Rattle.memories.specs.declared.VifUnit.TheVariants.{Vif0, Vif1}
use Rattle.vif_codes.specs.declared.Vif.{Vif}
use Rattle.chain_state.specs.declared.Stack.{Stack}
use Rattle.chain_state.specs.declared.Payload.{Payload}
use Rattle.chain_state.specs.declared.State.{State}

-- what a tag sets
abbrev pub with_tag : State → ℕ → Bool → Stack → Option ℕ → Payload → State
with_tag s a e k t p =
    record {
      channel = s.channel;
      tadr = a;
      tte = s.tte;
      ended = e;
      stack = k;
      tags = t;
      payload = p;
      used = s.used;
      vif0 = s.vif0;
      vif1 = s.vif1;
      path2 = s.path2;
      path3 = s.path3;
    }

-- what is pending
abbrev pub with_pending : State → Option ℕ → Payload → State
with_pending s t p =
    record {
      channel = s.channel;
      tadr = s.tadr;
      tte = s.tte;
      ended = s.ended;
      stack = s.stack;
      tags = t;
      payload = p;
      used = s.used;
      vif0 = s.vif0;
      vif1 = s.vif1;
      path2 = s.path2;
      path3 = s.path3;
    }

-- one of two, by the unit
abbrev pub pick_unit : VifUnit → Vif → Vif → Vif
pick_unit Vif0 a b = a
pick_unit Vif1 a b = b

-- a unit's registers and waiting code, of which the state has two
abbrev pub held_by : VifUnit → State → Vif
held_by which s = pick_unit which s.vif0 s.vif1

-- a unit, path 2 and the entries used
abbrev pub with_unit : VifUnit → State → Vif → Path → ℕ → State
with_unit which s v p n =
    record {
      channel = s.channel;
      tadr = s.tadr;
      tte = s.tte;
      ended = s.ended;
      stack = s.stack;
      tags = s.tags;
      payload = s.payload;
      used = n;
      vif0 = pick_unit which v s.vif0;
      vif1 = pick_unit which s.vif1 v;
      path2 = p;
      path3 = s.path3;
    }

-- path 3 and the entries used
abbrev pub with_path3 : State → Path → ℕ → State
with_path3 s p n =
    record {
      channel = s.channel;
      tadr = s.tadr;
      tte = s.tte;
      ended = s.ended;
      stack = s.stack;
      tags = s.tags;
      payload = s.payload;
      used = n;
      vif0 = s.vif0;
      vif1 = s.vif1;
      path2 = s.path2;
      path3 = p;
    }

-- what a start sets
abbrev pub with_start : State → ℕ → ℕ → Bool → Bool → Stack → Option ℕ → Payload → State
with_start s c a b e k t p =
    record {
      channel = c;
      tadr = a;
      tte = b;
      ended = e;
      stack = k;
      tags = t;
      payload = p;
      used = s.used;
      vif0 = s.vif0;
      vif1 = s.vif1;
      path2 = s.path2;
      path3 = s.path3;
    }
