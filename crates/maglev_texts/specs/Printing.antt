-- The texts of addresses, backends and flows.
use Rattle.std.specs.Prelude.{ℕ, ◌/◌, ◌%◌, ◌==◌, if◌then◌else◌, List, ◌++◌, codes}
use Rattle.std.specs.Fmt.{decimal}
use Rattle.five_tuple.specs.declared.Flow.{Flow}
use Rattle.pool_versions.specs.declared.backend.Backend.{Backend}

-- four numbers joined by dots
abbrev pub address_text : ℕ → List ℕ
address_text a = decimal (a / 16777216) ++ (codes "."
    ++ (decimal (a / 65536 % 256) ++ (codes "." ++ (decimal (a / 256 % 256) ++ (codes "." ++ decimal (a % 256))))))

-- `NAME@ADDRESS`
abbrev pub backend_text : Backend → List ℕ
backend_text b = b.name ++ (codes "@" ++ address_text b.addr)

-- the protocol's name, or its number
abbrev pub protocol_text : ℕ → List ℕ
protocol_text proto = if proto == 6 then codes "tcp" else (if proto == 17 then codes "udp" else decimal proto)

-- `ADDRESS:PORT`
abbrev pub end_text : ℕ → ℕ → List ℕ
end_text addr port = address_text addr ++ (codes ":" ++ decimal port)

-- the protocol, a space, and the source and destination joined by `>`
abbrev pub flow_text : Flow → List ℕ
flow_text x = protocol_text x.proto ++ (codes " " ++ (end_text x.src x.sport ++ (codes ">" ++ end_text x.dst x.dport)))
