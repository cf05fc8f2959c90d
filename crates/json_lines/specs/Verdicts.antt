-- Why two packets went where they went, as a line.
use Rattle.std.specs.Prelude.{ℕ, Bool, List, ◌++◌, codes}
use Rattle.std.specs.Fmt.{decimal}
use Rattle.pool_versions.specs.declared.backend.Backend.{Backend}
use Rattle.cluster_core.specs.declared.explaining.Verdict.{Verdict}
use Rattle.cluster_core.specs.declared.explaining.Verdict.TheVariants.{NotSent, OtherFlow, Same, Split}
use Rattle.json_lines.specs.Members.{bool_json, backend_members}

-- `"version":VERSION,BACKEND`
abbrev pub choice_members : ℕ → Backend → List ℕ
choice_members version backend = codes "\"version\":" ++ (decimal version ++ (codes "," ++ backend_members backend))

-- `"slot":SLOT,"first":{..},"later":{..},"drained":false`
unfoldable pub choices_members : ℕ → ℕ → Backend → ℕ → Backend → Bool → List ℕ
choices_members slot v₁ b₁ v₂ b₂ drained =
    codes "\"slot\":" ++ (decimal slot ++ (codes ",\"first\":{" ++ (choice_members v₁ b₁
    ++ (codes "},\"later\":{" ++ (choice_members v₂ b₂ ++ (codes "},\"drained\":" ++ bool_json drained))))))

-- a verdict, and of a split whether the first packet's server left after it had drained
abbrev pub verdict_members : Verdict → Bool → List ℕ
verdict_members NotSent drained = codes "\"verdict\":\"not sent\""
verdict_members OtherFlow drained = codes "\"verdict\":\"other flow\""
verdict_members Same drained = codes "\"verdict\":\"same\""
verdict_members (Split slot v₁ v₂ b₁ b₂) drained = codes "\"verdict\":\"split\"," ++ choices_members slot v₁ b₁ v₂ b₂ drained

-- `{"type":"explain","verdict":"VERDICT",..}`
abbrev pub verdict_json : Verdict → Bool → List ℕ
verdict_json verdict drained = codes "{\"type\":\"explain\"," ++ (verdict_members verdict drained ++ codes "}\n")
