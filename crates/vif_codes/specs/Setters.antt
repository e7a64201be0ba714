-- The unit with some of its registers replaced.
use Rattle.std.specs.Prelude.{ℕ, Bool, false, List}
use Rattle.vif_codes.specs.declared.Vif.{Vif}
use Rattle.vif_codes.specs.declared.Waiting.{Waiting}

abbrev pub with_cycle : Vif → ℕ → ℕ → Vif
with_cycle v a b =
    record {
      cl = a;
      wl = b;
      ofst = v.ofst;
      base = v.base;
      tops = v.tops;
      top = v.top;
      itops = v.itops;
      itop = v.itop;
      dbf = v.dbf;
      mode = v.mode;
      mskpath3 = v.mskpath3;
      mark = v.mark;
      mask = v.mask;
      row = v.row;
      col = v.col;
      waiting = v.waiting;
    }

-- OFST, with DBF 0 and TOPS
abbrev pub with_offset : Vif → ℕ → ℕ → Vif
with_offset v a b =
    record {
      cl = v.cl;
      wl = v.wl;
      ofst = a;
      base = v.base;
      tops = b;
      top = v.top;
      itops = v.itops;
      itop = v.itop;
      dbf = false;
      mode = v.mode;
      mskpath3 = v.mskpath3;
      mark = v.mark;
      mask = v.mask;
      row = v.row;
      col = v.col;
      waiting = v.waiting;
    }

abbrev pub with_base : Vif → ℕ → Vif
with_base v a =
    record {
      cl = v.cl;
      wl = v.wl;
      ofst = v.ofst;
      base = a;
      tops = v.tops;
      top = v.top;
      itops = v.itops;
      itop = v.itop;
      dbf = v.dbf;
      mode = v.mode;
      mskpath3 = v.mskpath3;
      mark = v.mark;
      mask = v.mask;
      row = v.row;
      col = v.col;
      waiting = v.waiting;
    }

abbrev pub with_itops : Vif → ℕ → Vif
with_itops v a =
    record {
      cl = v.cl;
      wl = v.wl;
      ofst = v.ofst;
      base = v.base;
      tops = v.tops;
      top = v.top;
      itops = a;
      itop = v.itop;
      dbf = v.dbf;
      mode = v.mode;
      mskpath3 = v.mskpath3;
      mark = v.mark;
      mask = v.mask;
      row = v.row;
      col = v.col;
      waiting = v.waiting;
    }

abbrev pub with_mode : Vif → ℕ → Vif
with_mode v a =
    record {
      cl = v.cl;
      wl = v.wl;
      ofst = v.ofst;
      base = v.base;
      tops = v.tops;
      top = v.top;
      itops = v.itops;
      itop = v.itop;
      dbf = v.dbf;
      mode = a;
      mskpath3 = v.mskpath3;
      mark = v.mark;
      mask = v.mask;
      row = v.row;
      col = v.col;
      waiting = v.waiting;
    }

abbrev pub with_mskpath3 : Vif → Bool → Vif
with_mskpath3 v a =
    record {
      cl = v.cl;
      wl = v.wl;
      ofst = v.ofst;
      base = v.base;
      tops = v.tops;
      top = v.top;
      itops = v.itops;
      itop = v.itop;
      dbf = v.dbf;
      mode = v.mode;
      mskpath3 = a;
      mark = v.mark;
      mask = v.mask;
      row = v.row;
      col = v.col;
      waiting = v.waiting;
    }

abbrev pub with_mark : Vif → ℕ → Vif
with_mark v a =
    record {
      cl = v.cl;
      wl = v.wl;
      ofst = v.ofst;
      base = v.base;
      tops = v.tops;
      top = v.top;
      itops = v.itops;
      itop = v.itop;
      dbf = v.dbf;
      mode = v.mode;
      mskpath3 = v.mskpath3;
      mark = a;
      mask = v.mask;
      row = v.row;
      col = v.col;
      waiting = v.waiting;
    }

abbrev pub with_mask : Vif → ℕ → Vif
with_mask v a =
    record {
      cl = v.cl;
      wl = v.wl;
      ofst = v.ofst;
      base = v.base;
      tops = v.tops;
      top = v.top;
      itops = v.itops;
      itop = v.itop;
      dbf = v.dbf;
      mode = v.mode;
      mskpath3 = v.mskpath3;
      mark = v.mark;
      mask = a;
      row = v.row;
      col = v.col;
      waiting = v.waiting;
    }

abbrev pub with_row : Vif → List ℕ → Vif
with_row v a =
    record {
      cl = v.cl;
      wl = v.wl;
      ofst = v.ofst;
      base = v.base;
      tops = v.tops;
      top = v.top;
      itops = v.itops;
      itop = v.itop;
      dbf = v.dbf;
      mode = v.mode;
      mskpath3 = v.mskpath3;
      mark = v.mark;
      mask = v.mask;
      row = a;
      col = v.col;
      waiting = v.waiting;
    }

abbrev pub with_col : Vif → List ℕ → Vif
with_col v a =
    record {
      cl = v.cl;
      wl = v.wl;
      ofst = v.ofst;
      base = v.base;
      tops = v.tops;
      top = v.top;
      itops = v.itops;
      itop = v.itop;
      dbf = v.dbf;
      mode = v.mode;
      mskpath3 = v.mskpath3;
      mark = v.mark;
      mask = v.mask;
      row = v.row;
      col = a;
      waiting = v.waiting;
    }

-- ITOP, TOP, DBF and TOPS, which a program start sets
abbrev pub with_start : Vif → ℕ → ℕ → Bool → ℕ → Vif
with_start v a b c d =
    record {
      cl = v.cl;
      wl = v.wl;
      ofst = v.ofst;
      base = v.base;
      tops = d;
      top = b;
      itops = v.itops;
      itop = a;
      dbf = c;
      mode = v.mode;
      mskpath3 = v.mskpath3;
      mark = v.mark;
      mask = v.mask;
      row = v.row;
      col = v.col;
      waiting = v.waiting;
    }

abbrev pub with_waiting : Vif → Waiting → Vif
with_waiting v a =
    record {
      cl = v.cl;
      wl = v.wl;
      ofst = v.ofst;
      base = v.base;
      tops = v.tops;
      top = v.top;
      itops = v.itops;
      itop = v.itop;
      dbf = v.dbf;
      mode = v.mode;
      mskpath3 = v.mskpath3;
      mark = v.mark;
      mask = v.mask;
      row = v.row;
      col = v.col;
      waiting = a;
    }
