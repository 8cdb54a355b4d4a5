pub mod RaceLines
