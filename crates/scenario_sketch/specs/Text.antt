-- The text of a sketch.
use Rattle.std.specs.Prelude.{ℕ, ◌==◌, if◌then◌else◌, List, [], ◌∷◌, ◌++◌, take, length, codes}
use Rattle.std.specs.List.{flat_map}
use Rattle.std.specs.Fmt.{decimal}
use Rattle.maglev_texts.specs.Printing.{address_text}
use Rattle.scenario_sketch.specs.declared.counted.Counted.{Counted}
use Rattle.scenario_sketch.specs.declared.sketch_text.SketchCounts.{SketchCounts}

-- how many destinations there are, how many of them are busy, and how many of these aren't the other direction of another one
abbrev pub comment_text : ℕ → ℕ → ℕ → List ℕ
comment_text destinations busy left =
    codes "# Destinations: " ++ (decimal destinations ++ (codes ". Of more than 5 packets: " ++ (decimal busy
    ++ (codes ". Without the other direction of these: " ++ (decimal left ++ codes ". The first 256 of them are services, the most frequent first.\n")))))

-- a cluster of one balancer
abbrev pub cluster_text : List ℕ
cluster_text = codes "format = 1\nsize = 65537\nhash = \"fnv\"\nscheme = \"maglev\"\nspread = \"hash\"\nworkers = 1\ncapacity = 100000\nnodes = [\"10.9.0.1\"]\n"

-- the cluster, which plays so many records under version 1
abbrev pub head_text : ℕ → List ℕ
head_text records = cluster_text ++ (codes "steps = [\"install 0 1\", \"take " ++ (decimal records ++ codes "\"]\n\n[[versions]]\nnumber = 1\n"))

-- 6 is TCP, and 17 is UDP
abbrev pub protocol_word : ℕ → List ℕ
protocol_word proto = if proto == 6 then codes "tcp" else codes "udp"

-- no members yet, and what they may be
abbrev pub members_text : List ℕ
members_text = codes "members = []\n# members = [\"web-1@10.8.0.1\", \"web-2@10.8.0.2\"]"

-- a service whose members are left to fill in
abbrev pub service_text : Counted → List ℕ
service_text c =
    codes "\n# " ++ (decimal c.packets ++ (codes " packets\n[[versions.services]]\n"
    ++ (codes "vip = \"" ++ (address_text c.service.vip ++ (codes "\"\nproto = \"" ++ (protocol_word c.service.proto
    ++ (codes "\"\nport = " ++ (decimal c.service.port ++ (codes "\n" ++ (members_text ++ codes "\n"))))))))))

-- the services of a version, which may be 256 at most
abbrev pub services_text : List Counted → List ℕ
services_text [] = codes "services = []\n"
services_text (c ∷ cs) = flat_map service_text (take 256 (c ∷ cs))

-- the scenario to start from, with these services
unfoldable pub sketch_text : SketchCounts → List Counted → List ℕ
sketch_text counts services = comment_text counts.destinations counts.busy (length services) ++ (head_text counts.records ++ services_text services)
