-- What comes before the modules of a bundle.
use Rattle.std.specs.Prelude.{ℕ, Bool, List, ◌++◌, if◌then◌else◌, codes}

-- the functions that define and run modules
unfoldable pub prelude_end : List ℕ
prelude_end = codes "(function(global){\nvar defs={},done={};\nfunction define(f,id,deps){defs[id]={f:f,deps:deps};delete done[id];}\nfunction run(id){\nif(id===null)return {};\nif(done[id])return done[id].exports;\nvar d=defs[id];\nif(!d)throw new Error(\"unknown module \"+id);\nvar m=done[id]={exports:{}};\nd.f(global,run,importDefault,importAll,m,m.exports,d.deps);\nreturn m.exports;\n}\nfunction importDefault(id){var e=run(id);return e&&e.__esModule?e.default:e;}\nfunction importAll(id){var e=run(id);if(e&&e.__esModule)return e;var r={};for(var k in e)r[k]=e[k];r.default=e;return r;}\nglobal.__d=define;global.__r=run;\nglobal.__exportAll=function(t,e){for(var k in e)if(k!==\"default\")t[k]=e[k];};\n})(typeof globalThis!==\"undefined\"?globalThis:this);\n"

-- the first line of a bundle for development
unfoldable pub dev_line : List ℕ
dev_line = codes "var __DEV__=true;\n"

-- the first line of another bundle
unfoldable pub plain_line : List ℕ
plain_line = codes "var __DEV__=false;\n"

-- what comes before the modules
abbrev pub prelude : Bool → List ℕ
prelude dev = (if dev then dev_line else plain_line) ++ prelude_end
