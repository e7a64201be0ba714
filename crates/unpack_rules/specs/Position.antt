-- Where a write goes and which vector it takes: document 01's positions, and document 02's filling write (request 3). CL and WL are the cycle.
use Rattle.std.specs.Prelude.{ℕ, zero, suc, ◌+◌, ◌*◌, ◌/◌, ◌%◌, min, Bool, ◌&&◌, nat_le, nat_lt}
use Rattle.fields.specs.Fields.{if}

-- "IMM bits 0-9 address A": addresses of quadwords have ten bits, also where a memory is smaller
abbrev pub addresses : ℕ
addresses = 1024

abbrev pub address_most : ℕ
address_most = 1023

-- "The later cabinets send UNPACK with WL above CL."
abbrev pub filling : ℕ → ℕ → Bool
filling cl wl = nat_lt cl wl

-- "Of every WL writes the first CL take a vector from the payload, the others fill.": whether write i fills
unfoldable pub fills : ℕ → ℕ → ℕ → Bool
fills cl wl i = filling cl wl && nat_le cl (i % wl)

-- how many vectors the first n writes take: "Payload vectors: CL x (NUM div WL) + the smaller of NUM mod WL and CL"; without filling each takes one
unfoldable pub vectors_before : ℕ → ℕ → ℕ → ℕ
vectors_before cl wl n = if (filling cl wl) (cl * (n / wl) + min (n % wl) cl) n

-- "Fills are written in the step that completes the vector before them.": of n writes, those done once v vectors are whole are the most whose vectors are
-- among them
unfoldable pub writes_done : ℕ → ℕ → ℕ → ℕ → ℕ
writes_done cl wl v zero = 0
writes_done cl wl v (suc n) = if (nat_le (vectors_before cl wl (suc n)) v) (suc n) (writes_done cl wl v n)

-- "Addresses run on by one each write.", where writes fill; else document 01's "Vector i goes to quadword (A + (i div WL) x CL + i mod WL) modulo 1,024", once
-- over the memory's size
unfoldable pub position_of : ℕ → ℕ → ℕ → ℕ → ℕ → ℕ
position_of size a cl wl i = if (filling cl wl) ((a + i) % size) ((a + i / wl * cl + i % wl) % size)
