pub mod Wordlist
